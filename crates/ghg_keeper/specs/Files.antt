-- What a keeper over a database file shows.
use Rattle.std.specs.Prelude.{◌≡◌, ◌⊎◌, ℕ, Bool, ◌==◌, ◌||◌, List, [], length, codes, None, Result, ⊤, IsErrOf, IsSomeAnd, MatchOption}
use Rattle.std.specs.List.{ends_with}
use Rattle.sqlite_disk.specs.declared.Disk as disk
use Rattle.sqlite_store.specs.declared.store.FileStore.{FileStore}
use Rattle.sqlite_trees.specs.Tree.{Trees}
use Rattle.sqlite_wal.specs.Recovery.{Image}
use Rattle.sqlite.specs.Files.{HoldsDatabase, IsOpened, file_state, over_files}
use Rattle.sqlite.specs.Held.{Held}
use Rattle.sqlite.specs.Start.{FindsIn}
use Rattle.sqlite.specs.State.{HasCleanDisk, State}
use Rattle.ghg_keeper.specs.Databases.{AttachesFrom, NeedsAttached, attached, database, kept_shelf}
use Rattle.ghg_keeper.specs.declared.file.FileKeeper.{FileKeeper}
use Rattle.ghg_keeper.specs.declared.keeper.KeepError.{KeepError}
use Rattle.ghg_keeper.specs.declared.keeper.KeepError.TheVariants.{Failed}
use Rattle.ghg_keeper.specs.declared.row.KeptRow.{KeptRow}
use Rattle.ghg_keeper.specs.declared.sql.SqlKeeper.{SqlKeeper}
use Rattle.ghg_keeper.specs.Listed.{TellsRows, kept_rows}
use Rattle.ghg_keeper.specs.Moving.{HasList}
use Rattle.ghg_keeper.specs.Shelf.{Shelf}

-- it tells how many calls failed, and nothing of its rows
abbrev pub file_shelf : {S T : Type 0} → FileKeeper S T → Shelf
file_shelf keeper =
    record { clean = ⊥; tells = ⊥; sure = λ t. t; rows = []; name = None; faults = keeper.faults }

module _ {S D : Type 0} {g : disk.Ghosts D} where
  -- A call is passed to the store in use, and this holds of what that tells. Where no store is in use, or it
  -- is not attached, the call fails.
  abbrev pub IsPassed : {A : Type 0} → FileKeeper S (FileStore D g) → FileKeeper S (FileStore D g)
      → Result A KeepError → (Shelf → Shelf → Type 0) → Type 0
  IsPassed before after result does = MatchOption before.store (IsErrOf result Failed)
      (λ old. IsSomeAnd after.store (λ new. NeedsAttached old new result
      × does (kept_shelf over_files old) (kept_shelf over_files new)))

  -- this holds of the database in use
  abbrev pub IsStored : FileKeeper S (FileStore D g) → (State → Type 0) → Type 0
  IsStored keeper holds = IsSomeAnd keeper.store (λ store. holds (database over_files store))

  -- this holds of whether the store in use was attached, and of its database before and after a call, where
  -- one was in use
  abbrev pub IsHandedOn : FileKeeper S (FileStore D g) → FileKeeper S (FileStore D g)
      → (Bool → State → State → Type 0) → Type 0
  IsHandedOn before after does = MatchOption before.store ⊤
      (λ old. IsStored after (λ new. does (attached old) (database over_files old) new))

-- ---- what the files held

-- the files hold a database with this list, or the database file is empty, and so is the list
abbrev pub HoldsList : Image → List KeptRow → Type 0
HoldsList image list =
    ((db : Trees) × HoldsDatabase image db × HasList list db) ⊎ ((length image.db ≡ 0) × (list ≡ []))

module _ {D : Type 0} {g : disk.Ghosts D} where
  -- the keeper was attached to a connection just opened, which shows what the files held, or no database
  pub record BeginsWith (image : Image) (keeper : SqlKeeper (FileStore D g)) : Type 0 where
    pub connection : Held (FileStore D g)
    pub opened : HasCleanDisk (file_state connection) → IsOpened connection
    pub found : HasCleanDisk (file_state connection) → FindsIn image (file_state connection)
    pub attached : AttachesFrom over_files connection keeper

  -- a list that the files held is told where the disk is clean, and each crash leaves it
  abbrev pub TellsList : Image → SqlKeeper (FileStore D g) → Type 0
  TellsList image keeper =
      (list : List KeptRow) → HoldsList image list → HasCleanDisk (database over_files keeper)
      → TellsRows (database over_files keeper) × (kept_rows (database over_files keeper).now ≡ list)
      × ((db : Trees) → (database over_files keeper).may_leave db → HasList list db)

-- the name of a file that SQLite keeps beside a database: its log, the index of that, or its journal
abbrev pub is_beside : List ℕ → Bool
is_beside name =
    ends_with (◌==◌) name (codes "-wal") || ends_with (◌==◌) name (codes "-shm")
    || ends_with (◌==◌) name (codes "-journal")
