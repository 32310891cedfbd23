-- `serve`: connections are served.
use Rattle.std.specs.Prelude.{◌≡◌, ◌⊎◌, ℕ, ◌+◌, ◌<◌, Bool, List, [], ◌∷◌, ◌++◌, length, map, Option, option_map, IfSome}
use Rattle.std.specs.Option.{is_some}
use Rattle.ghg_http.specs.declared.serve.LinkEnd.{LinkEnd}
use Rattle.ghg_http.specs.Reply.{HttpReply}
use Rattle.ghg_http.specs.Serve.{ServesLink, TellsFaults, snapshot as link_snapshot}
use Rattle.ghg_office.specs.Office.{State, requested}
use Rattle.ghg_office.specs.Sound.{IsSoundReply}
use Rattle.ghg_outer.specs.Doors.{Register}
use Rattle.ghg_outer.specs.Links.{IsFresh}
use Rattle.ghg_outer.specs.Tape.{Tape}
use Rattle.ghg_words.specs.declared.status.Status.{Status}
use Rattle.ghg_words.specs.declared.status.Status.TheVariants.{Done, DoorFailed, OutOfMemory}
use Rattle.ghg_words.specs.declared.command.Service.{Service}

-- ---- links, one after the other

-- what a link told when it was done with; the reply that was due on it, if one was; and how it ended
pub record ServedLink : Type 0 where
  pub link : Tape
  pub due : Option HttpReply
  pub end : LinkEnd

-- the office between two links: its state, the steps that were taken so far, and the count of the keeper's
-- faults
pub record OfficeAt : Type 0 where
  pub state : State
  pub steps : ℕ
  pub faults : ℕ

-- A link was served, by an office with a store or without. It was new: before that no call had failed on it,
-- and nothing had been taken from it or written to it.
pub record ServesNew (stored : Bool) (before : OfficeAt) (served : ServedLink) (after : OfficeAt)
    : Type 0 where
  pub new : Tape
  pub fresh : IsFresh new
  pub serves : ServesLink (link_snapshot before.state new before.steps)
      (link_snapshot after.state served.link after.steps) served.due served.end
  -- The keeper failed exactly where the reply that was due says so, however much of it was written.
  pub keeper : TellsFaults served.due stored before.faults after.faults
  -- In each table that may be asked for, the bounds hold the exact values of the nodes of the data then in
  -- force, wherever the inputs are within their supplied bounds.
  pub bounds : (name : List ℕ) (year : ℕ)
      → IsSoundReply before.state name year (requested before.state name year)

-- The links are a serving: each takes the office before it to the one after it.
abbrev pub IsServing : Bool → OfficeAt → List ServedLink → OfficeAt → Type 0
IsServing stored before [] after = after ≡ before
IsServing stored before (served ∷ rest) after =
    (between : OfficeAt) × ServesNew stored before served between × IsServing stored between rest after

-- ---- a whole serving

abbrev pub office_at : State → ℕ → ℕ → OfficeAt
office_at state steps faults = record { state = state; steps = steps; faults = faults }

-- what a door tells, with each link by what that tells
abbrev pub register_of : {Link : Type 0} → (Link → Tape) → Register Link → Register Tape
register_of tape door = record {
  port = door.port;
  given = door.given;
  finished = option_map (map tape) door.finished;
  faults = door.faults;
}

-- How a serving ends, by its status: these links were taken back, and perhaps one more was served and then
-- dropped.
abbrev pub EndsServing : Service → Option ℕ → List ServedLink → List ServedLink → Status → Type 0
-- as many were taken back as are asked for, at the port that is asked for, if the door tells it
EndsServing service port taken dropped Done =
    (length taken ≡ service.connections) × (dropped ≡ [])
    × IfSome port (λ open_port. open_port ≡ service.port)
-- the door failed before that
EndsServing service port taken dropped DoorFailed = (length taken < service.connections) × (dropped ≡ [])
-- memory ran out before that: when a link that was served was handed back, or before any was served
EndsServing service port taken dropped OutOfMemory =
    (length taken < service.connections) × ((length dropped ≡ 1) ⊎ ((taken ≡ []) × (dropped ≡ [])))
-- no other status ends a serving
EndsServing service port taken dropped _ = ⊥

-- An office served the links that the door gave, one after the other, and the last state of the office is
-- that after them.
pub record Serves (service : Service) (before after : OfficeAt) (door door' : Register Tape)
    (status : Status) : Type 0 where
  -- the links that the door took back, in their order, and the one that was dropped
  pub taken : List ServedLink
  pub dropped : List ServedLink
  pub serving : IsServing (is_some service.settings.store) before (taken ++ dropped) after
  pub finished : door'.finished ≡ option_map (λ links. links ++ map (λ s. s.link) taken) door.finished
  pub given : door'.given ≡ option_map (λ n. n + length (taken ++ dropped)) door.given
  pub ends : EndsServing service door'.port taken dropped status
