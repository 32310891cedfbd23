-- What contracts see of the keepers in memory.
use Rattle.std.specs.Prelude.{◌≡◌, ◌↔◌, ℕ, ⊤, List, Option, Result, IsErrOf, IsTrue}
use Rattle.ghg_outer.specs.Plans.{Plan, fails_next, after_call}
use Rattle.ghg_keeper.specs.declared.keeper.KeepError.{KeepError}
use Rattle.ghg_keeper.specs.declared.keeper.KeepError.TheVariants.{Failed}
use Rattle.ghg_keeper.specs.declared.row.KeptRow.{KeptRow}
use Rattle.ghg_keeper.specs.Shelf.{Shelf}

-- the rows, and the name last attached
pub record Stored : Type 0 where
  pub rows : List KeptRow
  pub name : Option (List ℕ)

-- one whose calls fail by a list
pub record PlannedKeeper : Type 0 where
  pub stored : Stored
  pub plan : Plan

-- they tell all of it
abbrev pub stored_shelf : Stored → ℕ → Shelf
stored_shelf s faults = record {
  clean = ⊤;
  tells = ⊤;
  sure = λ t. t;
  rows = s.rows;
  name = s.name;
  faults = faults;
}

abbrev pub planned_shelf : PlannedKeeper → Shelf
planned_shelf k = stored_shelf k.stored k.plan.faults

-- a call was counted, and failed exactly where its number is listed
pub record FollowsPlan {A : Type 0} (before after : Plan) (result : Result A KeepError) : Type 0 where
  pub fails : IsErrOf result Failed ↔ IsTrue (fails_next before)
  pub counted : after ≡ after_call before
