-- What single columns of a row say.
use Rattle.std.specs.Prelude.{ℕ, Bool, List, length, ◌==◌, ◌&&◌, nat_le, is_err, is_some, Option, Some, None, option_and_then, if◌then◌else◌}
use Rattle.std.specs.List.{list_all, slice_split}
use Rattle.std.specs.Option.{option_map}
use Rattle.ghg_categories.specs.declared.category.Category.{Category}
use Rattle.ghg_categories.specs.Tree.{is_leaf_of, named_in}
use Rattle.ghg_units.specs.declared.decimal.Decimal.{Decimal}
use Rattle.ghg_units.specs.declared.row.Binding.{Binding}
use Rattle.ghg_units.specs.declared.row.Binding.TheVariants as bound
use Rattle.ghg_units.specs.declared.rule.Column.TheVariants as columns
use Rattle.ghg_units.specs.declared.unit.Unit.{Unit as UnitWord}
use Rattle.ghg_units.specs.Decimal.{decimal_in}
use Rattle.ghg_units.specs.Name.{plain_name_in}
use Rattle.ghg_units.specs.Units.{interval_in}
use Rattle.ghg_units.specs.Steps.{◌>>=◌}
use Rattle.ghg_units.specs.WellFormed.{are_different}
use Rattle.ghg_units.specs.declared.names.TheConstants.{MOST_NAMES}
use Rattle.ghg_units.specs.Words.{key_in}
use Rattle.ghg_import.specs.declared.kind.BindingForm.{BindingForm}
use Rattle.ghg_import.specs.declared.kind.BindingForm.TheVariants as targets
use Rattle.ghg_import.specs.Kinds.{binding_form_in}
use Rattle.ghg_import.specs.Shape.{Texts, text_of}

-- the category that a text is the code of, where it has no children
unfoldable pub leaf_in : List ℕ → Option Category
leaf_in text = option_and_then (λ c. if is_leaf_of c then Some c else None) (named_in text)

-- the decimal that a text writes, where it is within the limit in the base unit
unfoldable pub quantity_in : UnitWord → List ℕ → Option Decimal
quantity_in u text =
    option_and_then (λ d. if is_err (interval_in u d) then None else Some d) (decimal_in text)

-- different plain names, as many as a sum may have
abbrev pub is_sum : List (List ℕ) → Bool
is_sum names =
    nat_le 1 (length names) && nat_le (length names) MOST_NAMES
    && list_all (λ name. is_some (plain_name_in name)) names && are_different names

-- the texts between the spaces of a text: with exactly one space between two names, none of them is empty
abbrev pub parts_of : List ℕ → List (List ℕ)
parts_of text = slice_split (λ b. b == 32) text

-- the lines that a text names for a sum
unfoldable pub names_in : List ℕ → Option (List (List ℕ))
names_in text = if is_sum (parts_of text) then Some (parts_of text) else None

-- what a text names as the target of a form
unfoldable pub target_in : BindingForm → List ℕ → Option Binding
target_in targets.Activity text = option_map bound.Activity (plain_name_in text)
target_in targets.Factor text = option_map bound.Factor (plain_name_in text)
target_in targets.Line text = option_map bound.Line (plain_name_in text)
target_in targets.Prev text = option_map bound.Prev (plain_name_in text)
target_in targets.Sum text = option_map bound.Sum (names_in text)
target_in targets.Decay text = option_map bound.Decay (plain_name_in text)
target_in targets.Key text = option_map bound.Key (key_in text)

-- what low names as the target of the form that the value names
unfoldable pub binding_in : Texts → Option Binding
binding_in row = do
  form ← binding_form_in (text_of row columns.Value)
  target_in form (text_of row columns.Low)
