-- What is said of the office alone.
use Rattle.std.specs.Prelude.{◌≡◌, ◌≤◌, ◌+◌, ⊤, ℕ, List, [], ◌∷◌, length, None, Ok}
use Rattle.ghg_definitions.specs.Compilation.{overflow}
use Rattle.ghg_definitions.specs.Rings.{IsAcyclic}
use Rattle.ghg_definitions.specs.Rules.{most_kept_bytes}
use Rattle.ghg_definitions.specs.Sound.{IsWorkbook}
use Rattle.ghg_office.specs.declared.reply.Reply.TheVariants.{Accepted}
use Rattle.ghg_keeper.specs.declared.row.KeptRow.{KeptRow}
use Rattle.ghg_office.specs.Accepted.{kept_bytes}
use Rattle.ghg_office.specs.Office.{State, repeated, requested, start, submitted}
use Rattle.ghg_office.specs.Replays.{replayed}
use Rattle.ghg_office.specs.Sound.{IsSoundReply}

-- ---- the states that submissions lead to

-- the state after submissions, one after the other
abbrev pub state_after_all : State → List KeptRow → State
state_after_all s [] = s
state_after_all s (given ∷ rest) = state_after_all (submitted s given.id given.body).after rest

-- The data are a workbook without a ring in which nothing is beyond the limits, and the accepted bodies are
-- not beyond theirs.
pub record IsInForce (s : State) : Type 0 where
  pub workbook : IsWorkbook s.content
  pub acyclic : IsAcyclic s.content
  pub fits : overflow s.content ≡ None
  pub kept : kept_bytes s.accepted ≤ most_kept_bytes

-- Every state that submissions lead to from the start is in force.
abbrev pub StatesStayInForce : Type 0
StatesStayInForce = (given : List KeptRow) → IsInForce (state_after_all start given)

-- ---- repeats

-- A submission that was accepted is Repeated with its number whenever it is given again, and changes nothing.
abbrev pub RepeatsActOnce : Type 0
RepeatsActOnce = (s : State) (id body : List ℕ) (seq cells : ℕ) (others : List KeptRow) →
    (submitted s id body).reply ≡ Accepted seq cells →
    let later = state_after_all (submitted s id body).after others in
    submitted later id body ≡ repeated later seq

-- ---- the accepted list

-- each of the submissions, one after the other, is accepted under the next number
abbrev pub AreAccepted : State → List KeptRow → Type 0
AreAccepted s [] = ⊤
AreAccepted s (given ∷ rest) =
    ((cells : ℕ) × ((submitted s given.id given.body).reply ≡ Accepted (length s.accepted + 1) cells)) ×
    AreAccepted (submitted s given.id given.body).after rest

-- the accepted list, submitted in its order from the start, is accepted whole and leads to the state
pub record IsRebuilt (s : State) : Type 0 where
  pub whole : AreAccepted start s.accepted
  pub same : state_after_all start s.accepted ≡ s

-- So it is with every state that submissions lead to from the start.
abbrev pub AcceptedListsRebuildStates : Type 0
AcceptedListsRebuildStates = (given : List KeptRow) → IsRebuilt (state_after_all start given)

-- Replayed, the accepted list of every state that submissions lead to from the start gives that state.
abbrev pub ReplaysRebuildStates : Type 0
ReplaysRebuildStates = (given : List KeptRow) →
    let s = state_after_all start given in
    replayed s.accepted ≡ Ok s

-- ---- tables

-- The reply to each request for a table of the data in force is sound.
abbrev pub BoundsHoldInForce : Type 0
BoundsHoldInForce = (s : State) → IsInForce s → (name : List ℕ) (year : ℕ) →
    IsSoundReply s name year (requested s name year)
