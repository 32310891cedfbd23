-- What calls that read from a source take of it.
use Rattle.std.specs.Prelude.{◌≡◌, ℕ, ◌≤◌, ◌⊎◌, List, ◌++◌, length, Option, Some, None, Result, MatchResult, MatchOption}
use Rattle.ghg_outer.specs.Tape.{Consumes, IsAtEnd, Tape}
use Rattle.ghg_words.specs.declared.status.Status.{Status}
use Rattle.ghg_words.specs.declared.status.Status.TheVariants.{InputFailed, OutOfMemory}
use Rattle.ghg_script.specs.Commands.{Grammar}

-- what was read is the text of this value, whatever follows it
pub record Found {T : Type 0} (g : Grammar T) (before after : Tape) (value : T) : Type 0 where
  pub text : List ℕ
  pub read : Consumes before after text
  pub each : (rest : List ℕ) → g.parse (text ++ rest) ≡ Some (value, rest)

-- what was read begins with no text of a value: nothing is left, or it is none whatever follows it;
-- and no more was read than the reach of the grammar
pub record Missing {T : Type 0} (g : Grammar T) (before after : Tape) : Type 0 where
  pub text : List ℕ
  pub read : Consumes before after text
  pub none : (IsAtEnd after × (g.parse text ≡ None)) ⊎ ((rest : List ℕ) → g.parse (text ++ rest) ≡ None)
  pub near : length text ≤ g.reach text

-- The source failed, or memory ran out. What was read before is no text of a value.
pub record Stopped {T : Type 0} (g : Grammar T) (before after : Tape) (stop : Status) : Type 0 where
  pub text : List ℕ
  pub read : Consumes before after text
  pub none : g.parse text ≡ None
  pub near : length text ≤ g.reach text
  pub why : (stop ≡ InputFailed) ⊎ (stop ≡ OutOfMemory)

-- a value was read, or that there is none, or the call stopped
abbrev pub Parses : {T : Type 0} → Grammar T → Tape → Tape → Result (Option T) Status → Type 0
Parses g before after result =
    MatchResult result (λ found. MatchOption found (Missing g before after) (Found g before after))
    (Stopped g before after)
