-- What a door tells, and what its calls do to that.
use Rattle.std.specs.Prelude.{◌≡◌, ℕ, ◌+◌, List, [], ◌∷◌, ◌++◌, Option, Some, None, IfSome, option_map}
use Rattle.ghg_outer.specs.Links.{IsFresh, PlannedLink, planned_link_tape}
use Rattle.ghg_outer.specs.Plans.{Plan}

-- The port that is open, how many links were given, and those that were taken back, where they are known;
-- and how many calls failed. A door that tells nothing of one of them has `None` for it.
pub record Register (Link : Type 0) : Type 0 where
  pub port : Option ℕ
  pub given : Option ℕ
  pub finished : Option (List Link)
  pub faults : ℕ

-- But for the count of faults nothing changed.
abbrev pub IsKept : {Link : Type 0} → Register Link → Register Link → Type 0
IsKept before after = after ≡ record before { faults = after.faults }

-- The port is open, and a door that tells its port tells this one.
pub record Opens {Link : Type 0} (before after : Register Link) (port : ℕ) : Type 0 where
  pub port_is : IfSome after.port (λ open_port. open_port ≡ port)
  pub rest : IsKept (record before { port = after.port }) after

-- One more link was given.
abbrev pub GivesLink : {Link : Type 0} → Register Link → Register Link → Type 0
GivesLink before after = IsKept (record before { given = option_map (λ n. n + 1) before.given }) after

-- The link was taken back, and stands behind those that were taken back before.
abbrev pub TakesBack : {Link : Type 0} → Register Link → Register Link → Link → Type 0
TakesBack before after link =
    IsKept (record before { finished = option_map (λ links. links ++ link ∷ []) before.finished }) after

-- ---- a door in memory

-- the links that are left to be given, and what the door tells
pub record PlannedDoor : Type 0 where
  pub links : List PlannedLink
  pub port : Option ℕ
  pub given : ℕ
  pub finished : List PlannedLink
  pub plan : Plan

-- before the first call
abbrev pub planned_door : List PlannedLink → Plan → PlannedDoor
planned_door links plan = record { links = links; port = None; given = 0; finished = []; plan = plan }

abbrev pub planned_register : PlannedDoor → Register PlannedLink
planned_register d = record {
  port = d.port;
  given = Some d.given;
  finished = Some d.finished;
  faults = d.plan.faults;
}

abbrev pub IsFreshLink : PlannedLink → Type 0
IsFreshLink link = IsFresh (planned_link_tape link)
