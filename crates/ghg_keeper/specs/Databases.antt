-- What a keeper over a database shows.
use Rattle.std.specs.Prelude.{◌≡◌, Bool, true, false, IsTrue, Result, Ok, IsErrOf, OnOk}
use Rattle.sqlite_trees.specs.declared.store.Store.{Ghosts}
use Rattle.sqlite.specs.State.{State, HasCleanDisk}
use Rattle.sqlite.specs.Held.{Held, state}
use Rattle.ghg_keeper.specs.declared.keeper.KeepError.{KeepError}
use Rattle.ghg_keeper.specs.declared.keeper.KeepError.TheVariants.{Failed}
use Rattle.ghg_keeper.specs.declared.sql.SqlKeeper.{SqlKeeper}
use Rattle.ghg_keeper.specs.Accepted.{has_kept_tables, is_referred_to}
use Rattle.ghg_keeper.specs.Course.{Prepares}
use Rattle.ghg_keeper.specs.Listed.{IsSafeAs, ListsStore, TellsRows, TellsStore, kept_rows, sql_shelf}
use Rattle.ghg_keeper.specs.Moving.{IsBeforeOrMoved, IsReady}
use Rattle.ghg_keeper.specs.Shelf.{Shelf}

-- its connection
abbrev pub held : {S : Type 0} → SqlKeeper S → Held S
held keeper = keeper.connection

-- what that shows
abbrev pub database : {S : Type 0} → Ghosts S → SqlKeeper S → State
database store keeper = state store (held keeper)

-- what the keeper tells
abbrev pub kept_shelf : {S : Type 0} → Ghosts S → SqlKeeper S → Shelf
kept_shelf store keeper = sql_shelf keeper.is_attached (database store keeper) keeper.faults

-- whether an `attach` of it has answered Ok
abbrev pub attached : {S : Type 0} → SqlKeeper S → Bool
attached keeper = keeper.is_attached

-- a call that has an answer was one of an attached keeper, and leaves it so
abbrev pub StaysAttached : {S A E : Type 0} → SqlKeeper S → SqlKeeper S → Result A E → Type 0
StaysAttached before after result =
    (attached after ≡ attached before) × OnOk result (attached before ≡ true)

-- a call of a keeper that is not attached fails, and does nothing to the database
abbrev pub NeedsAttached : {S A : Type 0} → SqlKeeper S → SqlKeeper S → Result A KeepError → Type 0
NeedsAttached before after result =
    attached before ≡ false → (held after ≡ held before) × IsErrOf result Failed

-- a keeper that was attached to a store just opened: its tables are there, and over a clean disk it is ready
abbrev pub IsInUse : {S : Type 0} → Ghosts S → SqlKeeper S → Type 0
IsInUse store keeper =
    (attached keeper ≡ true) × IsTrue (has_kept_tables (database store keeper).now.schema)
    × (HasCleanDisk (database store keeper) → IsReady (database store keeper))

-- A keeper whose first attach was to the store of this connection, in which no table refers to the first one.
-- It ran its statements from there. The rows are those that were told there, and stay told over a clean disk.
-- A crash at its end leaves the list.
pub record AttachesFrom {S : Type 0} (store : Ghosts S) (opened : Held S) (keeper : SqlKeeper S)
    : Type 0 where
  pub unreferred : is_referred_to (state store opened).now.schema ≡ false
  pub runs : Prepares store opened (held keeper) (Ok tt)
  pub rows : TellsRows (database store keeper) → TellsStore (state store opened)
      × (kept_rows (database store keeper).now ≡ kept_rows (state store opened).now)
  pub told : TellsStore (state store opened) → HasCleanDisk (database store keeper)
      → TellsRows (database store keeper)
  pub safe : IsSafeAs {A = Unit {0}} {E = KeepError} ListsStore (state store opened) (database store keeper)
      (Ok tt) (IsBeforeOrMoved (state store opened).now)
