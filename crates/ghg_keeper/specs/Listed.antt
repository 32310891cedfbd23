-- The kept rows as the tables have them.
use Rattle.std.specs.Prelude.{◌≡◌, ◌⊎◌, ℕ, zero, suc, ◌+◌, pos, Bool, true, false, length, List, [], ◌∷◌, ◌++◌, map, filter, codes, Option, Some, None, option_map, unwrap_or, Result, ⊤, IsErr, IsTrue}
use Rattle.sqlite_disk.specs.Disk.{MoreFaults}
use Rattle.sqlite.specs.declared.types.Value.TheVariants.{Null, Int, Text, Blob}
use Rattle.sqlite.specs.Order.{Row, column, bytes}
use Rattle.sqlite_trees.specs.Tree.{Trees, rowid, has_rowid}
use Rattle.sqlite_trees.specs.Objects.{catalog_tree}
use Rattle.sqlite.specs.Effect.{Database}
use Rattle.sqlite.specs.State.{State, HasCleanDisk}
use Rattle.ghg_units.specs.Format.{format_in}
use Rattle.ghg_keeper.specs.declared.row.KeptRow.{KeptRow}
use Rattle.sqlite.specs.Table.{Table}
use Rattle.sqlite.specs.declared.types.Value.{Value}
use Rattle.sqlite_schema.specs.Names.{column_named, place_of, same_name}
use Rattle.ghg_keeper.specs.Accepted.{AreApart, HasBoth, IsAsMade, accepted, second, table_of}
use Rattle.ghg_keeper.specs.Shelf.{Shelf}

-- ---- what the tables hold

-- the numbers of the rows are those from this one on
abbrev pub AreNumbered : ℕ → List Row → Type 0
AreNumbered n [] = ⊤
AreNumbered n (r ∷ rs) = (rowid r ≡ Int (pos n)) × AreNumbered (n + 1) rs

-- a row as the second table stores it: the column of the number is the rowid
abbrev pub stored : ℕ → List ℕ → List ℕ → Row
stored seq id body = Int (pos seq) ∷ Null ∷ Text id ∷ Int (pos (format_in body)) ∷ Blob body ∷ []

-- the rows with this number
abbrev pub with_number : ℕ → List Row → List Row
with_number seq = filter (has_rowid (pos seq))

-- the rows with the numbers from 1 to this one, in that order
abbrev pub numbered_to : ℕ → List Row → List Row
numbered_to zero rows = []
numbered_to (suc n) rows = numbered_to n rows ++ with_number (suc n) rows

-- one row has each number from 1 to this one
abbrev pub HaveEach : ℕ → List Row → Type 0
HaveEach zero rows = ⊤
HaveEach (suc n) rows = HaveEach n rows × (length (with_number (suc n) rows) ≡ 1)

-- the rows of the table of this name, none where it is not there
abbrev pub rows_in : Trees → Option Table → List Row
rows_in db None = []
rows_in db (Some table) = db table.tree

abbrev pub rows_of : List ℕ → Database → List Row
rows_of name db = rows_in db.trees (table_of name db.schema)

abbrev pub first_rows : Database → List Row
first_rows = rows_of accepted.name

abbrev pub second_rows : Database → List Row
second_rows = rows_of second.name

-- both tables are there, the second has the rows, and the first is empty
pub record ListsRows (db : Database) : Type 0 where
  pub tables : HasBoth db.schema
  pub first : first_rows db ≡ []
  pub numbered : AreNumbered 1 (second_rows db)

-- one table has the rows, and the other has none
abbrev pub AreInOne : List Row → List Row → Type 0
AreInOne first rows = (HaveEach (length first) first × (rows ≡ [])) ⊎ ((first ≡ []) × AreNumbered 1 rows)

-- each table is there or not yet, and the rows are in one of them
pub record ListsStore (db : Database) : Type 0 where
  pub first : IsAsMade accepted db.schema
  pub second : IsAsMade second db.schema
  pub apart : AreApart db.schema
  pub rows : AreInOne (first_rows db) (second_rows db)

-- the value in the column of this name
abbrev pub value_of : Table → List ℕ → Row → Value
value_of table name r = column r (unwrap_or (option_map (place_of table) (column_named table name)) 0)

abbrev pub kept_in : Table → Row → KeptRow
kept_in table r = record {
  id = bytes (value_of table (codes "id") r);
  body = bytes (value_of table (codes "body") r);
}

abbrev pub kept_first : Row → KeptRow
kept_first = kept_in accepted

abbrev pub kept_of : Row → KeptRow
kept_of = kept_in second

-- the kept rows of a database, in the order of their numbers; one of the tables has none
abbrev pub kept_rows : Database → List KeptRow
kept_rows db =
    map kept_first (numbered_to (length (first_rows db)) (first_rows db)) ++ map kept_of (second_rows db)

-- ---- what a keeper over it tells

-- When the rows can be told: no wrong answer of the disk was taken as true, no transaction is open, and the
-- store has them like this.
pub record TellsAs (Lists : Database → Type 0) (s : State) : Type 0 where
  pub clean : HasCleanDisk s
  pub is_open : IsTrue s.is_open
  pub autocommit : s.in_transaction ≡ false
  pub committed : s.now ≡ s.committed
  pub listed : Lists s.now

-- the rows are in the second table
abbrev pub TellsRows : State → Type 0
TellsRows = TellsAs ListsRows

-- the rows are in either
abbrev pub TellsStore : State → Type 0
TellsStore = TellsAs ListsStore

-- where a keeper that is attached has its rows, and one that is not
abbrev pub Lists : Bool → Database → Type 0
Lists true = ListsRows
Lists false = ListsStore

abbrev pub sql_shelf : Bool → State → ℕ → Shelf
sql_shelf is_attached s faults = record {
  clean = HasCleanDisk s;
  tells = TellsAs (Lists is_attached) s;
  sure = λ t. t.clean;
  rows = kept_rows s.now;
  name = None;
  faults = faults;
}

-- ---- what a statement does

-- between two transactions, where what is seen is what was committed
pub record IsAtRest (s : State) : Type 0 where
  pub autocommit : s.in_transaction ≡ false
  pub settled : IsTrue s.is_open → s.now ≡ s.committed

-- the rows are told after the call only where they were before, and nothing changed
abbrev pub Stays : State → State → Type 0
Stays old new = TellsRows new → TellsRows old × (new.now ≡ old.now)

-- each table but the second has the rows that it had
abbrev pub KeepsOthers : Database → Database → Type 0
KeepsOthers old now =
    (name : List ℕ) → same_name second.name name ≡ false → rows_of name now ≡ rows_of name old

-- an insert that was made
pub record Appends (old new : State) (id body : List ℕ) : Type 0 where
  pub told : TellsRows old
  pub schema : new.now.schema ≡ old.now.schema
  pub others : KeepsOthers old.now new.now
  pub rows : second_rows new.now
      ≡ second_rows old.now ++ stored (length (second_rows old.now) + 1) id body ∷ []
  pub number : new.last_rowid ≡ pos (length (second_rows old.now) + 1)

-- ---- what a crash leaves

-- the trees have the same list of tables, the second table has these rows, and each other has its own
pub record HoldsRows (now : Database) (rows : List Row) (db : Trees) : Type 0 where
  pub catalog : db catalog_tree ≡ now.trees catalog_tree
  pub others : KeepsOthers now (record now { trees = db })
  pub table : second_rows (record now { trees = db }) ≡ rows

-- the rows as they were, or with the new one
abbrev pub IsBeforeOrAfter : Database → List ℕ → List ℕ → Trees → Type 0
IsBeforeOrAfter now id body db =
    let rows = second_rows now in
    HoldsRows now rows db ⊎ HoldsRows now (rows ++ stored (length rows + 1) id body ∷ []) db

-- What is safe after a call of the database, where the rows are told as this says. A crash at the end of the
-- call may leave what `Leaves` says.
pub record IsSafeAs {A E : Type 0} (Lists : Database → Type 0) (old new : State) (result : Result A E)
    (Leaves : Trees → Type 0) : Type 0 where
  -- no wrong answer of the disk is forgotten
  pub clean : HasCleanDisk new → HasCleanDisk old
  -- over a clean store the rows stay told, unless the call failed because the disk failed or refused
  pub told : TellsAs Lists old → HasCleanDisk new
      → TellsAs Lists new ⊎ (IsErr result × MoreFaults old.faults new.faults)
  -- with any answer
  pub crash : TellsAs Lists old → HasCleanDisk new → (db : Trees) → new.may_leave db → Leaves db
  -- while the rows are told each crash leaves them all
  pub durable : TellsAs Lists new → (db : Trees) → new.may_leave db → db ≡ new.now.trees

-- where the rows are in the second table
abbrev pub IsSafe : {A E : Type 0} → State → State → Result A E → (Trees → Type 0) → Type 0
IsSafe old new result Leaves = IsSafeAs ListsRows old new result Leaves
