-- What an object of the outside tells: a tape, of which bytes are read and on which bytes are written.
use Rattle.std.specs.Prelude.{◌≡◌, ℕ, ◌≤◌, ◌<◌, Bool, true, false, List, [], length, take, Option, Some, None, Result, MatchResult}
use Rattle.std.specs.Io.KnownBytes as known

-- The bytes that are left to be read, those that were taken, and those that were written, where they are
-- known; how many calls failed; and whether a write takes memory, as one to a list that grows. An object
-- that tells nothing of some bytes has `None` for them, and then each statement on them below holds.
pub record Tape : Type 0 where
  pub left : Option (List ℕ)
  pub taken : Option (List ℕ)
  pub written : Option (List ℕ)
  pub faults : ℕ
  pub grows : Bool

-- The text was taken from the front of what was left, and stands behind what was taken before. Nothing
-- was written, and the count of faults did not fall.
pub record Consumes (before after : Tape) (text : List ℕ) : Type 0 where
  pub left : known.Consumes before.left after.left text
  pub taken : known.Appends before.taken after.taken text
  pub written : known.Keeps before.written after.written
  pub counts : before.faults ≤ after.faults
  pub grows : after.grows ≡ before.grows

-- The text was written behind what was written before. Nothing was taken, and the count of faults did not
-- fall.
pub record Appends (before after : Tape) (text : List ℕ) : Type 0 where
  pub left : known.Keeps before.left after.left
  pub taken : known.Keeps before.taken after.taken
  pub written : known.Appends before.written after.written text
  pub counts : before.faults ≤ after.faults
  pub grows : after.grows ≡ before.grows

-- A prefix of the text was written, perhaps all of it, and nothing else.
pub record AppendsPrefix (before after : Tape) (text : List ℕ) : Type 0 where
  pub count : ℕ
  pub wrote : Appends before after (take count text)

-- A proper prefix of the text was written, which is not all of it, and nothing else.
pub record AppendsProperPrefix (before after : Tape) (text : List ℕ) : Type 0 where
  pub count : ℕ
  pub short : count < length text
  pub wrote : Appends before after (take count text)

-- no byte is left, where the tape tells what is left
abbrev pub IsAtEnd : Tape → Type 0
IsAtEnd tape = known.IsAtEnd tape.left

-- `read(buf)` consumed the n bytes that it gave at `Ok(n)`, and nothing at `Err`
abbrev pub Reads : {E : Type 0} → Tape → Tape → Result ℕ E → List ℕ → Type 0
Reads before after result buf =
    MatchResult result (λ n. Consumes before after (take n buf)) (λ _. Consumes before after [])

-- `write(piece)` appended the n bytes that it took at `Ok(n)`, and nothing at `Err`
abbrev pub Writes : {E : Type 0} → Tape → Tape → Result ℕ E → List ℕ → Type 0
Writes before after result piece =
    MatchResult result (λ n. Appends before after (take n piece)) (λ _. Appends before after [])

-- the tape of a source that tells its bytes
abbrev pub source_tape : List ℕ → List ℕ → ℕ → Tape
source_tape left taken faults =
    record { left = Some left; taken = Some taken; written = None; faults = faults; grows = false }

-- the tape of a sink that tells its bytes
abbrev pub sink_tape : List ℕ → ℕ → Tape
sink_tape written faults =
    record { left = None; taken = None; written = Some written; faults = faults; grows = true }
