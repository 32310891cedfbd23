-- What calls that write to a sink leave of what was due.
use Rattle.std.specs.Prelude.{◌≡◌, ◌⊎◌, ℕ, true, List, Result, MatchResult}
use Rattle.ghg_outer.specs.Tape.{Appends, AppendsProperPrefix, Tape}
use Rattle.ghg_words.specs.declared.status.Status.{Status}
use Rattle.ghg_words.specs.declared.status.Status.TheVariants.{OutputFailed, OutOfMemory}

-- A proper prefix of the text was written, perhaps nothing. Then the sink failed; or memory ran out, which
-- happens only at a sink that grows.
pub record StoppedWriting (before after : Tape) (text : List ℕ) (status : Status) : Type 0 where
  pub wrote : AppendsProperPrefix before after text
  pub why : (status ≡ OutputFailed) ⊎ ((status ≡ OutOfMemory) × (before.grows ≡ true))

-- all of the text was written, or the call stopped before that
abbrev pub WritesAll : {T : Type 0} → Tape → Tape → List ℕ → Result T Status → Type 0
WritesAll before after text result =
    MatchResult result (λ _. Appends before after text) (StoppedWriting before after text)

-- the line was written, with the status that is due then, or the call stopped before that
abbrev pub Reports : Tape → Tape → List ℕ → Status → Status → Type 0
Reports before after line due status =
    (Appends before after line × (status ≡ due)) ⊎ StoppedWriting before after line status
