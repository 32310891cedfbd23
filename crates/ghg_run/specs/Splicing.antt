-- `splice`: the years that a series lacks are filled.
use Rattle.std.specs.Prelude.{◌≡◌, ◌⊎◌, ℕ, ◌+◌, ◌≤◌, List, length}
use Rattle.ghg_outer.specs.Tape.{Consumes, IsAtEnd, Tape}
use Rattle.ghg_script.specs.Commands.{line_of}
use Rattle.ghg_splice.specs.declared.refusal.SpliceRefusal.{SpliceRefusal}
use Rattle.ghg_splice.specs.declared.splicing.Spliced.{Spliced}
use Rattle.ghg_splice.specs.declared.splicing.Spliced.TheVariants.{Body, Refused}
use Rattle.ghg_splice.specs.Laws.{HoldsExactFractions}
use Rattle.ghg_splice.specs.Refusals.{refusal_text}
use Rattle.ghg_splice.specs.Splice.{max_body, splice_of}
use Rattle.ghg_words.specs.declared.command.Splicing.{Splicing}
use Rattle.ghg_words.specs.declared.status.Status.{Status}
use Rattle.ghg_words.specs.declared.status.Status.TheVariants.{Done, InputFailed, OutOfMemory, SpliceRefused}
use Rattle.ghg_run.specs.Opening.{ReportsMade}

-- The series is the input to its end, or as many bytes of it as are one more than a series may have.
pub record ReadsSeries (before after : Tape) (series : List ℕ) : Type 0 where
  pub read : Consumes before after series
  pub few : length series ≤ max_body + 1
  pub whole : IsAtEnd after ⊎ (length series ≡ max_body + 1)

-- Some of the input was read, at most as many bytes as for a series. Then the input failed, or memory ran
-- out.
pub record StopsInSeries (before after : Tape) (stop : Status) : Type 0 where
  pub text : List ℕ
  pub read : Consumes before after text
  pub few : length text ≤ max_body + 1
  pub why : (stop ≡ InputFailed) ⊎ (stop ≡ OutOfMemory)

abbrev pub refusal_line : SpliceRefusal → List ℕ
refusal_line refusal = line_of (refusal_text refusal)

-- The body of a submission is due with status 0, and the line of a refusal with status 10.
abbrev pub ReportsSpliced : Spliced → Tape → Tape → Status → Type 0
ReportsSpliced (Body text) output output' status = ReportsMade output output' text Done status
ReportsSpliced (Refused refusal) output output' status =
    ReportsMade output output' (refusal_line refusal) SpliceRefused status

-- A series was read, and what splicing it gives is due: the bounds of filled years hold the exact fractions
-- of the formula. Or the reading stopped, and nothing was written.
abbrev pub Splices : Splicing → Tape → Tape → Tape → Tape → Status → Type 0
Splices splicing input input' output output' status =
    ((series : List ℕ) × ReadsSeries input input' series
    × ReportsSpliced (splice_of splicing.method splicing.name splicing.unit series) output output' status
    × HoldsExactFractions splicing.method series)
    ⊎ (StopsInSeries input input' status × (output' ≡ output))
