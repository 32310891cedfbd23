-- A body spliced.
use Rattle.std.specs.Prelude.{ℕ, List, length, nat_lt, if◌then◌else◌, Result, Ok, Err}
use Rattle.ghg_units.specs.declared.unit.Unit.{Unit as UnitWord}
use Rattle.ghg_splice.specs.declared.method.Method.{Method}
use Rattle.ghg_splice.specs.declared.refusal.SpliceRefusal.{SpliceRefusal}
use Rattle.ghg_splice.specs.declared.refusal.SpliceRefusal.TheVariants.{TooLong}
use Rattle.ghg_splice.specs.declared.splicing.Spliced.{Spliced}
use Rattle.ghg_splice.specs.declared.splicing.Spliced.TheVariants.{Body, Refused}
use Rattle.ghg_splice.specs.declared.splicing.TheConstants.{MAX_BODY}
use Rattle.ghg_splice.specs.declared.text.Heading.{Heading}
use Rattle.ghg_splice.specs.Fills.{fills_in}
use Rattle.ghg_splice.specs.Refusals.{◌>>=◌}
use Rattle.ghg_splice.specs.Series.{rows_in}
use Rattle.ghg_splice.specs.Texts.{printed_in}

-- the most bytes of a body, as the code has it
abbrev pub max_body : ℕ
max_body = MAX_BODY

-- a body that is not too long
abbrev pub short_in : List ℕ → Result (List ℕ) SpliceRefusal
short_in body = if nat_lt max_body (length body) then Err TooLong else Ok body

-- the text, or the first refusal
unfoldable pub text_in : Heading → List ℕ → Result (List ℕ) SpliceRefusal
text_in h body = do
  short ← short_in body
  rows ← rows_in short
  fills ← fills_in h.method rows
  printed_in h fills

abbrev pub answer_of : Result (List ℕ) SpliceRefusal → Spliced
answer_of (Ok text) = Body text
answer_of (Err refusal) = Refused refusal

-- what splicing a body gives
abbrev pub splice_of : Method → List ℕ → UnitWord → List ℕ → Spliced
splice_of method name unit body =
    answer_of (text_in (record { method = method; name = name; unit = unit }) body)
