-- What is written of a whole text.
use Rattle.std.specs.Prelude.{◌≡◌, true, List, ℕ, Result, MatchResult}
use Rattle.ghg_outer.specs.Tape.{Appends, AppendsProperPrefix, Tape}
use Rattle.ghg_outer.specs.declared.sink.WriteError.{WriteError}
use Rattle.ghg_outer.specs.declared.sink.WriteError.TheVariants.{Memory}

-- A proper prefix of the text was written, perhaps nothing. Then the sink failed; or memory ran out, which
-- happens only at a sink that grows.
pub record StopsWriting (before after : Tape) (text : List ℕ) (error : WriteError) : Type 0 where
  pub wrote : AppendsProperPrefix before after text
  pub memory : error ≡ Memory → before.grows ≡ true

-- all of the text was written, or that stopped before
abbrev pub WritesAll : {T : Type 0} → Tape → Tape → List ℕ → Result T WriteError → Type 0
WritesAll before after text result =
    MatchResult result (λ _. Appends before after text) (StopsWriting before after text)
