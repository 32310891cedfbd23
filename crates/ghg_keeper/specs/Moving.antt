-- The move of the rows to the second table, in one transaction.
use Rattle.std.specs.Prelude.{◌≡◌, ◌⊎◌, ℕ, true, false, List, length, [], map, IsTrue}
use Rattle.sqlite_trees.specs.Tree.{Trees}
use Rattle.sqlite.specs.Effect.{Database, IsDatabase}
use Rattle.ghg_keeper.specs.declared.row.KeptRow.{KeptRow}
use Rattle.sqlite.specs.State.{State, HasCleanDisk, IsRolledBack, IsUnchanged}
use Rattle.ghg_keeper.specs.Accepted.{HasBoth, has_kept_tables}
use Rattle.ghg_keeper.specs.Listed.{AreNumbered, HaveEach, IsAtRest, ListsStore, TellsStore, first_rows, kept_first, kept_of, kept_rows, numbered_to, second_rows}

-- the second table has the first rows of the first one, up to this number
pub record Copied (count : ℕ) (old now : Database) : Type 0 where
  pub each : HaveEach count (first_rows old)
  pub size : length (second_rows now) ≡ count
  pub numbered : AreNumbered 1 (second_rows now)
  pub rows : map kept_of (second_rows now)
      ≡ map kept_first (numbered_to count (first_rows old))

-- A transaction is open that left the tables. Where they are both there, and the second was empty at the last
-- commit, this holds.
pub record InMove (s : State) (Holds : Type 0) : Type 0 where
  pub is_open : IsTrue s.is_open
  pub in_transaction : s.in_transaction ≡ true
  pub schema : s.now.schema ≡ s.committed.schema
  pub holds : HasBoth s.now.schema → second_rows s.committed ≡ [] → Holds

-- the rows up to this number are copied, and the first table is unchanged
abbrev pub IsMoving : ℕ → State → Type 0
IsMoving count s =
    InMove s (Copied count s.committed s.now × (first_rows s.now ≡ first_rows s.committed))

-- the rows up to this number are copied, and the first table is empty
abbrev pub IsCleared : ℕ → State → Type 0
IsCleared count s = InMove s (Copied count s.committed s.now × (first_rows s.now ≡ []))

-- the transaction was committed
pub record IsCommitted (old new : State) : Type 0 where
  pub was_open : IsTrue old.is_open
  pub is_open : IsTrue new.is_open
  pub autocommit : new.in_transaction ≡ false
  pub now_is : new.now ≡ old.now
  pub committed_is : new.committed ≡ old.now

-- all rows, so many, were moved from one database to the other
pub record Moves (count : ℕ) (old now : Database) : Type 0 where
  pub sound : IsDatabase now
  pub schema : now.schema ≡ old.schema
  pub holds : HasBoth now.schema → second_rows old ≡ []
      → Copied count old now × (first_rows now ≡ [])

-- that was done from what the last commit left, and is committed
pub record IsMoved (count : ℕ) (old new : State) : Type 0 where
  pub was_open : IsTrue old.is_open
  pub is_open : IsTrue new.is_open
  pub autocommit : new.in_transaction ≡ false
  pub committed : new.now ≡ new.committed
  pub moved : Moves count old.committed new.now

-- nothing was done, or the transaction was rolled back
abbrev pub Leaves : State → State → Type 0
Leaves old new = IsUnchanged old new ⊎ IsRolledBack old new

-- in a transaction, or after one that was rolled back
pub record IsWithin (old new : State) : Type 0 where
  pub clean : HasCleanDisk new → HasCleanDisk old
  pub was_open : HasCleanDisk new → IsTrue new.is_open → IsTrue old.is_open
  pub committed : HasCleanDisk new → IsTrue new.is_open → new.committed ≡ old.committed
  pub undone : HasCleanDisk new → IsTrue new.is_open
      → (new.in_transaction ≡ true) ⊎ (new.now ≡ new.committed)

-- the list is told after the call only where it was before, and is the same
pub record Recalls (old new : State) : Type 0 where
  pub clean : HasCleanDisk new → HasCleanDisk old
  pub was_open : HasCleanDisk new → IsTrue new.is_open → IsTrue old.is_open
  pub told : TellsStore new → TellsStore old × (kept_rows new.now ≡ kept_rows old.now)

-- a list that was told before the call is told after it, over a clean store that is open, in no transaction
abbrev pub StaysListed : State → State → Type 0
StaysListed old new =
    TellsStore old → HasCleanDisk new → IsTrue new.is_open → new.in_transaction ≡ false → TellsStore new

pub record KeepsList (old new : State) : Type 0 where
  pub recalls : Recalls old new
  pub stays : StaysListed old new

-- between two transactions, over a clean store
abbrev pub Rests : State → Type 0
Rests s = HasCleanDisk s → IsAtRest s

-- the store is open, in no transaction, and has both tables; if it has nothing else, the first one is empty
pub record IsReady (s : State) : Type 0 where
  pub is_open : IsTrue s.is_open
  pub autocommit : s.in_transaction ≡ false
  pub tables : IsTrue (has_kept_tables s.now.schema)
  pub first : HasBoth s.now.schema → first_rows s.now ≡ []

-- ---- what a crash leaves

-- these are the trees of a database that has the list
pub record HasList (list : List KeptRow) (db : Trees) : Type 0 where
  pub found : Database
  pub sound : IsDatabase found
  pub trees : found.trees ≡ db
  pub listed : ListsStore found
  pub rows : kept_rows found ≡ list

-- the trees as they were, or others with the same list
abbrev pub IsBeforeOrMoved : Database → Trees → Type 0
IsBeforeOrMoved now db = (db ≡ now.trees) ⊎ HasList (kept_rows now) db

-- what a call may commit: nothing; the database to which all rows, so many, were moved from this one; a
-- database with the list, where that was told
abbrev pub CommitsNone : Trees → Type 0
CommitsNone db = ⊥

abbrev pub CommitsMove : ℕ → Database → Trees → Type 0
CommitsMove count old db = (now : Database) × Moves count old now × (now.trees ≡ db)

abbrev pub CommitsList : State → Trees → Type 0
CommitsList s db = TellsStore s → HasList (kept_rows s.now) db
