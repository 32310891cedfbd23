-- What a row says, where none of its columns is wrong.
use Rattle.std.specs.Prelude.{ℕ, List, length, ◌==◌, ◌&&◌, nat_le, int_le, Option, Some, None, Result, Err, if◌then◌else◌}
use Rattle.std.specs.Option.{ok_or, option_map}
use Rattle.ghg_categories.specs.declared.category.Category.{Category}
use Rattle.ghg_equations.specs.declared.eq_id.EqId.{EqId}
use Rattle.ghg_equations.specs.Table.{named}
use Rattle.ghg_units.specs.declared.decimal.Decimal.{Decimal}
use Rattle.ghg_units.specs.declared.row.Act.{Act}
use Rattle.ghg_units.specs.declared.row.Amount.{Amount}
use Rattle.ghg_units.specs.declared.row.Amount.TheVariants as amounts
use Rattle.ghg_units.specs.declared.row.Figure.{Figure}
use Rattle.ghg_units.specs.declared.row.RowForm.{RowForm}
use Rattle.ghg_units.specs.declared.row.RowForm.TheVariants as forms
use Rattle.ghg_units.specs.declared.row.Span.{Span}
use Rattle.ghg_units.specs.declared.rule.Column.TheVariants as columns
use Rattle.ghg_units.specs.declared.unit.Unit.{Unit as UnitWord}
use Rattle.ghg_units.specs.HalfLife.{half_life_in}
use Rattle.ghg_units.specs.Name.{factor_name_in, plain_name_in}
use Rattle.ghg_units.specs.Parameter.{parameter_in}
use Rattle.ghg_units.specs.Steps.{◌>>=◌}
use Rattle.ghg_units.specs.Uncertainty.{uncertainty_in}
use Rattle.ghg_units.specs.Words.{key_in}
use Rattle.ghg_units.specs.Year.{year_in}
use Rattle.ghg_import.specs.declared.fault.Fault.{Fault}
use Rattle.ghg_import.specs.declared.fault.Fault.TheVariants.{Disorder}
use Rattle.ghg_import.specs.declared.kind.Chosen.{Chosen}
use Rattle.ghg_import.specs.declared.kind.Kind.{Kind}
use Rattle.ghg_import.specs.declared.kind.Kind.TheVariants as kinds
use Rattle.ghg_import.specs.declared.kind.Manner.{Manner}
use Rattle.ghg_import.specs.declared.kind.Manner.TheVariants.{Withdraws, InYears, Keyed}
use Rattle.ghg_import.specs.Forms.{binding_in, leaf_in, quantity_in}
use Rattle.ghg_import.specs.Shape.{Texts, text_of}
use Rattle.ghg_import.specs.Table.{chosen_in, wrong_column}

-- ---- what the columns behind the key say

-- the years of a span, in their order
unfoldable pub span_in : Texts → Option Span
span_in row = do
  first ← year_in (text_of row columns.Year)
  last ← year_in (text_of row columns.Value)
  base ← year_in (text_of row columns.Low)
  if nat_le first base && nat_le base last then Some (record { first = first; base = base; last = last })
      else None

-- a bound, which is the value where none is supplied
unfoldable pub bound_in : UnitWord → Decimal → List ℕ → Option Decimal
bound_in u value text = if length text == 0 then Some value else quantity_in u text

-- a value between its bounds
unfoldable pub known_in : UnitWord → Texts → Option Amount
known_in u row = do
  value ← quantity_in u (text_of row columns.Value)
  low ← bound_in u value (text_of row columns.Low)
  high ← bound_in u value (text_of row columns.High)
  if int_le low.scaled value.scaled && int_le value.scaled high.scaled then Some
      (amounts.Known value low high)
      else None

-- a half-life, a notation key, or a value
abbrev pub amount_in : ℕ → Manner → UnitWord → Texts → Option Amount
amount_in format InYears u row = option_map amounts.HalfLife (half_life_in format (text_of row columns.Value))
amount_in format Keyed u row = option_map amounts.Key (key_in (text_of row columns.Value))
amount_in format _ u row = known_in u row

unfoldable pub figure_in : Chosen → Texts → Option Figure
figure_in c row = do
  unit ← c.unit
  amount ← amount_in c.format c.manner unit row
  Some (record { unit = unit; amount = amount })

unfoldable pub line_in : Texts → Option (Category × EqId)
line_in row = do
  category ← leaf_in (text_of row columns.Subject)
  equation ← named (text_of row columns.Value)
  Some (category, equation)

-- the uncertainties of activity data and of an emission factor
unfoldable pub uncertainties_in : Texts → Option (ℕ × ℕ)
uncertainties_in row = do
  activity ← uncertainty_in (text_of row columns.Value)
  factor ← uncertainty_in (text_of row columns.Low)
  Some (activity, factor)

-- ---- what the row says

-- a row that withdraws says no more than its key
abbrev pub unless_withdrawn : {A : Type 0} → Manner → Option A → Option (Option A)
unless_withdrawn Withdraws said = Some None
unless_withdrawn _ said = option_map Some said

-- what the columns of a row say, or nothing where its numbers are not in their order
unfoldable pub content_of : Kind → Chosen → Texts → Option RowForm
content_of kinds.Span c row = option_map forms.Span (unless_withdrawn c.manner (span_in row))
content_of kinds.Activity c row = do
  name ← plain_name_in (text_of row columns.Name)
  year ← year_in (text_of row columns.Year)
  option_map (forms.Activity name year) (unless_withdrawn c.manner (figure_in c row))
content_of kinds.Factor c row = do
  name ← factor_name_in (text_of row columns.Name)
  year ← year_in (text_of row columns.Year)
  option_map (forms.Factor name year) (unless_withdrawn c.manner (figure_in c row))
content_of kinds.Line c row = do
  name ← plain_name_in (text_of row columns.Name)
  option_map (forms.Line name) (unless_withdrawn c.manner (line_in row))
content_of kinds.Bind c row = do
  line ← plain_name_in (text_of row columns.Subject)
  parameter ← parameter_in (text_of row columns.Name)
  option_map (forms.Bind line parameter) (unless_withdrawn c.manner (binding_in row))
content_of kinds.Uncert c row = do
  line ← plain_name_in (text_of row columns.Name)
  option_map (forms.Uncert line) (unless_withdrawn c.manner (uncertainties_in row))

-- the wrong column, else disorder, else the content
abbrev pub unless_wrong : {A : Type 0} → Option Fault → Option A → Result A Fault
unless_wrong (Some fault) content = Err fault
unless_wrong None content = ok_or content Disorder

unfoldable pub form_of : Kind → Chosen → Texts → Result RowForm Fault
form_of kind c row = unless_wrong (wrong_column kind c row) (content_of kind c row)

-- what a row of a kind says in a body of a format, or the first fault of its columns
abbrev pub form_in : ℕ → Kind → Act → Texts → Result RowForm Fault
form_in format kind act row = form_of kind (chosen_in format kind act row) row
