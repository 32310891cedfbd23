-- Lines that come to, leave or change the category at which they emit a gas.
use Rattle.std.specs.Prelude.{◌≡◌, Bool, false, not, if◌then◌else◌, filter, Option, Some, None}
use Rattle.std.specs.Bool.{beq}
use Rattle.std.specs.Cmp.Lexicographic.{pointwise}
use Rattle.std.specs.Option.{option_map_or}
use Rattle.std.specs.Ordering.{eq_by_cmp}
use Rattle.ghg_categories.specs.declared.category.Category.{Category}
use Rattle.ghg_categories.specs.Tree.{stands_under, tree}
use Rattle.ghg_definitions.specs.declared.record.RecordKey.{RecordKey}
use Rattle.ghg_definitions.specs.declared.record.RecordKey.TheVariants as key
use Rattle.ghg_definitions.specs.Compilation.{counts_in_gross, emits, gas_lines_at}
use Rattle.ghg_definitions.specs.Data.{Data, Name, category, name_cmp}
use Rattle.ghg_graph.specs.declared.moves.Move.{Move}
use Rattle.ghg_graph.specs.declared.moves.Moved.{Moved}

-- the category at which the line emits a gas, if it does
abbrev pub emits_at : Data → Name → Option Category
emits_at m name = if emits m name then category m name else None

-- where the line of the key emits a gas in the old data, and where in the new ones
abbrev pub move_of : Data → Data → RecordKey → Option Move
move_of old new (key.Line name) = Some (record { before = emits_at old name; after = emits_at new name })
move_of old new _ = None

-- one of both categories passes, and the other does not
abbrev pub crosses : (Category → Bool) → Move → Bool
crosses test m = not (beq (option_map_or test m.before false) (option_map_or test m.after false))

-- other lines emit a gas at categories that pass
abbrev pub are_moved : Data → Data → (Category → Bool) → Bool
are_moved old new test = not (pointwise (eq_by_cmp name_cmp) (gas_lines_at test old) (gas_lines_at test new))

-- the categories at and under which other lines emit a gas, and whether others count in the gross total
pub record AreMoved (old new : Data) (m : Moved) : Type 0 where
  pub tops : m.tops.items ≡ filter (λ top. are_moved old new (λ c. stands_under c top)) tree
  pub gross : m.gross ≡ are_moved old new counts_in_gross
