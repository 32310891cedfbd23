-- The lines of a script of `compile`.
use Rattle.std.specs.Prelude.{◌≡◌, ◌↔◌, ℕ, Bool, true, ◌&&◌, List, ◌++◌, Option, Some, None, nat_le, if◌then◌else◌, codes, option_and_then}
use Rattle.std.specs.Option.{option_map_or}
use Rattle.std.specs.List.{list_all}
use Rattle.std.specs.Str.{bytes_eq}
use Rattle.ghg_units.specs.Decimal.{number_in}
use Rattle.ghg_units.specs.Steps.{◌>>=◌}
use Rattle.ghg_script.specs.declared.command.Line.{Line}
use Rattle.ghg_script.specs.declared.command.Line.TheVariants as line
use Rattle.ghg_script.specs.declared.script.TableQuery.{TableQuery}
use Rattle.ghg_script.specs.declared.script.TheConstants.{LENGTH_DIGITS, LONGEST_TABLE}
use Rattle.ghg_script.specs.declared.word.TheConstants.{LONGEST_ID}
use Rattle.ghg_script.specs.Commands.{Forms, split_at}
use Rattle.ghg_script.specs.Words.{IsWord, IsYear, after_word, has_length, year_in}

abbrev pub is_lower : ℕ → Bool
is_lower b = nat_le 97 b && nat_le b 122

-- 1 to 60 bytes, and the number that 1 to 8 digits write
abbrev pub submit_form : List ℕ → Option (Line TableQuery)
submit_form bytes = do
  parts ← split_at 32 bytes
  count ← number_in LENGTH_DIGITS parts.1
  if has_length 1 LONGEST_ID parts.0 then Some (line.Submit parts.0 count) else None

-- 1 to 16 lower-case letters, and four digits
abbrev pub show_form : List ℕ → Option (Line TableQuery)
show_form bytes = do
  parts ← split_at 32 bytes
  year ← year_in parts.1
  if has_length 1 LONGEST_TABLE parts.0 && list_all is_lower parts.0
      then Some (line.Query (record { table = parts.0; year = year })) else None

-- what a line says that begins a command
unfoldable pub script_forms : Forms TableQuery
script_forms bytes =
    if bytes_eq bytes (codes "END") then Some line.End
    else option_map_or submit_form (after_word (codes "SUBMIT ") bytes)
    (option_and_then show_form (after_word (codes "SHOW ") bytes))

-- ---- the same, as a reader says it

-- SUBMIT, an id of 1 to 60 bytes, none of which is a space, and the length of the body in 1 to 8 digits;
-- SHOW, the name of a table of 1 to 16 lower-case letters, and a year of four digits; or END.
abbrev pub IsFormOf : Line TableQuery → List ℕ → Type 0
IsFormOf (line.Submit id n) text = (digits : List ℕ)
    × (text ≡ codes "SUBMIT " ++ (id ++ (codes " " ++ digits))) × IsWord id × (number_in 8 digits ≡ Some n)
IsFormOf (line.Query show) text = (digits : List ℕ)
    × (text ≡ codes "SHOW " ++ (show.table ++ (codes " " ++ digits))) × (has_length 1 16 show.table ≡ true)
    × (list_all is_lower show.table ≡ true) × IsYear digits show.year
IsFormOf line.End text = text ≡ codes "END"

-- A line says exactly what it is the form of.
abbrev pub SaysForms : {Q : Type 0} → Forms Q → (Line Q → List ℕ → Type 0) → Type 0
SaysForms {Q} forms is_form =
    (text : List ℕ) (form : Line Q) → (forms text ≡ Some form) ↔ is_form form text
