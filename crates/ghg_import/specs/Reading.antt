-- What a body says.
use Rattle.std.specs.Prelude.{ℕ, ◌+◌, List, [], ◌∷◌, Option, Some, None, Result, Ok, Err, if◌then◌else◌}
use Rattle.std.specs.Option.{ok_or}
use Rattle.ghg_units.specs.declared.row.Act.{Act}
use Rattle.ghg_units.specs.declared.row.Row.{Row}
use Rattle.ghg_units.specs.declared.row.RowForm.{RowForm}
use Rattle.ghg_units.specs.declared.rule.Column.TheVariants as columns
use Rattle.ghg_units.specs.declared.rule.Rule.{Rule}
use Rattle.ghg_units.specs.declared.rule.Rule.TheVariants.{BadShape}
use Rattle.ghg_units.specs.Format.{format_in}
use Rattle.ghg_units.specs.Words.{act_in}
use Rattle.ghg_import.specs.declared.fault.Fault.{Fault}
use Rattle.ghg_import.specs.declared.fault.Fault.TheVariants.{Shape, Word}
use Rattle.ghg_import.specs.Body.{records_of}
use Rattle.ghg_import.specs.Fault.{◌>>=◌, rule_at}
use Rattle.ghg_import.specs.Content.{form_in}
use Rattle.ghg_import.specs.Kinds.{kind_in}
use Rattle.ghg_import.specs.Shape.{Texts, has_columns, is_header, text_of}

-- the rows before the first that breaks a rule, and that rule
pub record Reading : Type 0 where
  pub rows : List Row
  pub rest : Option Rule

-- what a row says in a body of a format: its act, its kind, and what the kind makes of its other columns
unfoldable pub content_in : ℕ → Texts → Result (Act × RowForm) Fault
content_in format row = do
  act ← ok_or (act_in (text_of row columns.Act)) (Word columns.Act)
  kind ← ok_or (kind_in (text_of row columns.Kind)) (Word columns.Kind)
  form ← form_in format kind act row
  Ok (act, form)

-- the row of a record's fields, or the first rule that they break
unfoldable pub row_content : ℕ → Texts → Result (Act × RowForm) Fault
row_content format fields = if has_columns fields then content_in format fields else Err Shape

abbrev pub numbered : ℕ → Result (Act × RowForm) Fault → Result Row Rule
numbered number (Ok content) = Ok (record { number = number; act = content.0; form = content.1 })
numbered number (Err fault) = Err (rule_at number fault)

unfoldable pub row_in : (format number : ℕ) → Texts → Result Row Rule
row_in format number fields = numbered number (row_content format fields)

-- a row and what comes after it
abbrev pub then_rows : Result Row Rule → Reading → Reading
then_rows (Ok row) later = record { rows = row ∷ later.rows; rest = later.rest }
then_rows (Err rule) later = record { rows = []; rest = Some rule }

-- what records say in a body of a format, the first with this number
unfoldable pub rows_from : (format number : ℕ) → List Texts → Reading
rows_from format number [] = record { rows = []; rest = None }
rows_from format number (fields ∷ records) =
    then_rows (row_in format number fields) (rows_from format (number + 1) records)

-- a body with no header of its format
abbrev pub no_header : Reading
no_header = record { rows = []; rest = Some (BadShape 0) }

-- the header has the number 0, and the rows count from 1
abbrev pub under_header : ℕ → List Texts → Reading
under_header format [] = no_header
under_header format (header ∷ records) =
    if is_header format header then rows_from format 1 records else no_header

-- what a body says, in its format
unfoldable pub reading_of : List ℕ → Reading
reading_of body = under_header (format_in body) (records_of body)
