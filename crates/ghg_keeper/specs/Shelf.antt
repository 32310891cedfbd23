-- What a keeper tells: a shelf, on which rows are kept.
use Rattle.std.specs.Prelude.{◌≡◌, ℕ, List, [], ◌∷◌, ◌++◌, Option, Result, IsErrOf, OnOk}
use Rattle.ghg_outer.specs.Counts.{IsCounted}
use Rattle.ghg_keeper.specs.declared.keeper.KeepError.{KeepError}
use Rattle.ghg_keeper.specs.declared.keeper.KeepError.TheVariants.{Failed}
use Rattle.ghg_keeper.specs.declared.row.KeptRow.{KeptRow}

-- Whether no wrong answer of what is below the store was taken as true; whether the rows are told, which they
-- are only then; the rows, the oldest first, of which nothing is said where they are not told; the name of
-- the store in use, where that is told; and how many calls failed.
pub record Shelf : Type 1 where
  pub clean : Type 0
  pub tells : Type 0
  pub sure : tells → clean
  pub rows : List KeptRow
  pub name : Option (List ℕ)
  pub faults : ℕ

-- rows that are told after a call were told before it, and are the same; no wrong answer is forgotten
pub record KeepsRows (before after : Shelf) : Type 0 where
  pub clean : after.clean → before.clean
  pub told : after.tells → before.tells
  pub same : after.tells → after.rows ≡ before.rows

-- the rows and the name in use are the same
pub record Keeps (before after : Shelf) : Type 0 where
  pub rows : KeepsRows before after
  pub name : after.name ≡ before.name

-- one row more stands behind the others, where they are told after the call, and the name is the same; no
-- wrong answer is forgotten
pub record Adds (before after : Shelf) (row : KeptRow) : Type 0 where
  pub clean : after.clean → before.clean
  pub told : after.tells → before.tells
  pub more : after.tells → after.rows ≡ before.rows ++ row ∷ []
  pub name : after.name ≡ before.name

-- rows that were told before a call are told after it where it has an answer, unless a wrong one was taken
abbrev pub StaysTold : {A : Type 0} → Shelf → Shelf → Result A KeepError → Type 0
StaysTold before after result = before.tells → after.clean → OnOk result after.tells

-- the count of faults rose where the call failed, and is as it was with any other answer
abbrev pub CountsFaults : {A : Type 0} → Shelf → Shelf → Result A KeepError → Type 0
CountsFaults before after result = IsCounted before.faults after.faults (IsErrOf result Failed)
