-- The lines of a script of `review`: those of `compile`, and three more.
use Rattle.std.specs.Prelude.{◌≡◌, ℕ, ◌&&◌, List, ◌++◌, Option, Some, None, if◌then◌else◌, codes, option_map, option_and_then}
use Rattle.std.specs.Option.{option_map_or}
use Rattle.ghg_units.specs.Steps.{◌>>=◌}
use Rattle.ghg_script.specs.declared.command.Line.{Line}
use Rattle.ghg_script.specs.declared.command.Line.TheVariants as line
use Rattle.ghg_script.specs.declared.review.ReviewQuery.{ReviewQuery}
use Rattle.ghg_script.specs.declared.review.ReviewQuery.TheVariants.{Freeze, Recalc, Show, Trend}
use Rattle.ghg_script.specs.declared.script.TableQuery.{TableQuery}
use Rattle.ghg_script.specs.declared.word.TheConstants.{LONGEST_ID}
use Rattle.ghg_script.specs.Commands.{Forms, lacks, split_at}
use Rattle.ghg_script.specs.Script.{IsFormOf, script_forms}
use Rattle.ghg_script.specs.Words.{IsWord, IsYear, after_word, has_length, year_in}

-- what a line of `compile` says
abbrev pub as_review : Line TableQuery → Line ReviewQuery
as_review (line.Submit id n) = line.Submit id n
as_review (line.Query query) = line.Query (Show query)
as_review line.End = line.End

-- 1 to 60 bytes, none of which is a space
abbrev pub freeze_form : List ℕ → Option ReviewQuery
freeze_form name = if has_length 1 LONGEST_ID name && lacks 32 name then Some (Freeze name) else None

-- 1 to 60 bytes, and four digits
abbrev pub recalc_form : List ℕ → Option ReviewQuery
recalc_form bytes = do
  parts ← split_at 32 bytes
  year ← year_in parts.1
  if has_length 1 LONGEST_ID parts.0 then Some (Recalc parts.0 year) else None

-- four digits
abbrev pub trend_form : List ℕ → Option ReviewQuery
trend_form digits = option_map Trend (year_in digits)

-- what a line asks for that `compile` does not know
abbrev pub further_query : List ℕ → Option ReviewQuery
further_query bytes =
    option_map_or freeze_form (after_word (codes "FREEZE ") bytes)
    (option_map_or recalc_form (after_word (codes "RECALC ") bytes)
    (option_and_then trend_form (after_word (codes "TREND ") bytes)))

-- what a line says that begins a command
unfoldable pub review_forms : Forms ReviewQuery
review_forms bytes =
    option_map_or (λ said. Some (as_review said)) (script_forms bytes)
    (option_map (λ query. line.Query query) (further_query bytes))

-- ---- the same, as a reader says it

-- A line of `compile`; FREEZE and a name of 1 to 60 bytes, none of which is a space; RECALC, such a name, and
-- a year of four digits; or TREND and such a year.
abbrev pub IsReviewFormOf : Line ReviewQuery → List ℕ → Type 0
IsReviewFormOf (line.Submit id n) text = IsFormOf (line.Submit id n) text
IsReviewFormOf (line.Query (Show query)) text = IsFormOf (line.Query query) text
IsReviewFormOf (line.Query (Freeze name)) text = (text ≡ codes "FREEZE " ++ name) × IsWord name
IsReviewFormOf (line.Query (Recalc name year)) text = (digits : List ℕ)
    × (text ≡ codes "RECALC " ++ (name ++ (codes " " ++ digits))) × IsWord name × IsYear digits year
IsReviewFormOf (line.Query (Trend year)) text = (digits : List ℕ)
    × (text ≡ codes "TREND " ++ digits) × IsYear digits year
IsReviewFormOf line.End text = IsFormOf line.End text
