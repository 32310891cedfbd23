-- What a keeper over a file owes its trait, which is nothing of its rows, and what it finds in its files.
use Rattle.std.proofs.Common.{◌≡◌, ◌<◌, inl, inr, List, [], length, arith, Bool, true, false, IsTrue, Result, Ok, Err, IfOk, OnOk, OnErr, refl, sym, ap, subst, ◌∙◌}
use Rattle.sqlite_trees.specs.declared.store.Store.{Ghosts}
use Rattle.sqlite_disk.specs.declared.Disk as disk
use Rattle.sqlite_store.specs.declared.store.FileStore.{FileStore}
use Rattle.sqlite_trees.specs.Tree.{Trees}
use Rattle.sqlite_trees.specs.Objects.{catalog_tree}
use Rattle.sqlite_wal.specs.Recovery.{Image}
use Rattle.sqlite_schema.specs.declared.schema.Schema.{Schema}
use Rattle.sqlite_catalog.specs.Listing as listing
use Rattle.sqlite_catalog.proofs.ReadLemmas.{lists_once}
use Rattle.sqlite.proofs.ListingLemmas.{empty_is_sound}
use Rattle.sqlite.specs.Effect.{Database, IsDatabase}
use Rattle.sqlite.specs.Files.{IsOpened, file_state, over_files}
use Rattle.sqlite.specs.Held.{Held}
use Rattle.sqlite.specs.Start.{FindsIn}
use Rattle.sqlite.specs.State.{HasCleanDisk, State}
use Rattle.ghg_keeper.specs.declared.sql.SqlKeeper.{SqlKeeper}
use Rattle.ghg_keeper.specs.declared.keeper.KeepError.{KeepError}
use Rattle.ghg_keeper.specs.Accepted.{is_referred_to}
use Rattle.ghg_keeper.specs.Course.{Prepares}
use Rattle.ghg_keeper.specs.Databases.{AttachesFrom, attached, database, held, kept_shelf}
use Rattle.ghg_keeper.specs.Listed.{IsSafeAs, Lists, ListsStore, TellsAs, TellsStore, kept_rows}
use Rattle.ghg_keeper.specs.Moving.{HasList, IsBeforeOrMoved}
use Rattle.ghg_keeper.specs.declared.file.FileKeeper.{FileKeeper}
use Rattle.ghg_keeper.specs.declared.row.KeptRow.{KeptRow}
use Rattle.ghg_keeper.specs.Files.{BeginsWith, HoldsList, TellsList, file_shelf}
use Rattle.ghg_keeper.specs.Shelf.{Adds, Keeps, KeepsRows}

pub tells_none : {S T : Type 0} (before after : FileKeeper S T) → KeepsRows (file_shelf before) (file_shelf after)
tells_none before after = record { clean = λ h. h; told = λ h. h; same = λ h. absurd h }

pub keeps_none : {S T : Type 0} (before after : FileKeeper S T) → Keeps (file_shelf before) (file_shelf after)
keeps_none before after = record { rows = tells_none before after; name = refl }

pub adds_none : {S T : Type 0} (before after : FileKeeper S T) (row : KeptRow) → Adds (file_shelf before) (file_shelf after) row
adds_none before after row = record { clean = λ h. h; told = λ h. h; more = λ h. absurd h; name = refl }

-- what holds in any case holds on each answer
pub on_ok : {A E P : Type 0} (answer : Result A E) → P → OnOk answer P
on_ok (Ok x) p = p
on_ok (Err e) p = tt

pub on_err : {A E P : Type 0} (answer : Result A E) → P → OnErr answer P
on_err (Ok x) p = tt
on_err (Err e) p = p

-- ---- what the files held

pub ok_then : {A E : Type 0} {P Q : A → Type 0} (answer : Result A E) → ((x : A) → P x → Q x) → IfOk answer P → IfOk answer Q
ok_then (Ok x) f p = f x p
ok_then (Err e) f p = tt

none_refers : (refers : Bool) → (refers ≡ true → ⊥) → refers ≡ false
none_refers true never = absurd (never refl)
none_refers false never = refl

-- what `attach` says of a keeper that was made over a connection
pub attaches_from : {S : Type 0} (store : Ghosts S) (opened : Held S) (old new : SqlKeeper S) → held old ≡ opened → attached old ≡ false → attached new ≡ true
    → (IsTrue (is_referred_to (database store old).now.schema) → ⊥)
    → KeepsRows (kept_shelf store old) (kept_shelf store new)
    → ((kept_shelf store old).tells → (kept_shelf store new).clean → (kept_shelf store new).tells)
    → IsSafeAs {A = Unit {0}} {E = KeepError} ListsStore (database store old) (database store new) (Ok tt) (IsBeforeOrMoved (database store old).now)
    → Prepares store (held old) (held new) (Ok tt) → AttachesFrom store opened new
attaches_from store opened old new is was now unreferred rows told safe runs = subst (λ it. AttachesFrom store it new) is (record {
  unreferred = none_refers _ unreferred;
  runs = runs;
  rows = λ t.
      let here = subst (λ x. TellsAs (Lists x) (database store new)) (sym now) t in
      (subst (λ x. TellsAs (Lists x) (database store old)) was (rows.told here), rows.same here);
  told = λ t clean. subst (λ x. TellsAs (Lists x) (database store new)) now (told (subst (λ x. TellsAs (Lists x) (database store old)) (sym was) t) clean);
  safe = safe;
})

database_is : (a b : Database) → a.schema ≡ b.schema → a.trees ≡ b.trees → a ≡ b
database_is a b schema trees =
    ap (λ (s : Schema). let it : Database = record { schema = s; trees = a.trees } in it) schema
    ∙ ap (λ (t : Trees). let it : Database = record { schema = b.schema; trees = t } in it) trees

-- what the files held as a list is what the opened connection has committed
found_list : (image : Image) (list : List KeptRow) (s : State) → FindsIn image s → HoldsList image list → HasList list s.committed.trees
found_list image list s finds (inl held) = subst (HasList list) (sym (finds.holds held.0 held.1)) held.2
found_list image list s finds (inr empty) =
    elim finds.reads [
      | inl read ↦ absurd (let some : 0 < length image.db = read.3.found.present in let none = empty.0 in omega arith)
      | inr none ↦ record {
        found = record { schema = record { tables = []; indexes = []; views = [] }; trees = s.committed.trees };
        sound = empty_is_sound s.committed.trees none.1.1;
        trees = refl;
        listed = record { first = inl refl; second = inl refl; apart = tt; rows = inl (tt, refl) };
        rows = sym empty.1;
      }
    ]

-- a list that the trees of a database have is its own
has_list : (now : Database) (list : List KeptRow) → IsDatabase now → HasList list now.trees → ListsStore now × (kept_rows now ≡ list)
has_list now list sound it =
    let lists : listing.Lists (it.found.trees catalog_tree) now.schema = subst (λ (t : Trees). listing.Lists (t catalog_tree) now.schema) (sym it.trees) sound.lists in
    let is : now ≡ it.found = database_is now it.found (lists_once (it.found.trees catalog_tree) now.schema it.found.schema lists it.sound.lists) (sym it.trees) in
    (subst ListsStore (sym is) it.listed, ap kept_rows is ∙ it.rows)

module _ {D : Type 0} {g : disk.Ghosts D} where
  pub begins : (image : Image) (connection : Held (FileStore D g)) → (HasCleanDisk (file_state connection) → IsOpened connection)
      → (HasCleanDisk (file_state connection) → FindsIn image (file_state connection))
      → (keeper : SqlKeeper (FileStore D g)) → AttachesFrom over_files connection keeper → BeginsWith image keeper
  begins image connection opened found keeper at = record { connection = connection; opened = opened; found = found; attached = at }

  -- a list that the files held is that of the connection as it was opened, and so that of the keeper
  pub tells_found : (image : Image) (keeper : SqlKeeper (FileStore D g)) → BeginsWith image keeper → TellsList image keeper
  tells_found image keeper begun list held clean =
      let at = begun.attached in
      let early = at.safe.clean clean in
      let opened = begun.opened early in
      let now : Database = (file_state begun.connection).now in
      let sound : IsDatabase now = (opened.1 opened.0.is_open).0 in
      let it : HasList list now.trees =
      subst (λ (d : Database). HasList list d.trees) (sym opened.0.clean) (found_list image list (file_state begun.connection) (begun.found early) held) in
      let (listed, rows) = has_list now list sound it in
      let told : TellsStore (file_state begun.connection) = record {
        clean = early;
        is_open = opened.0.is_open;
        autocommit = opened.0.autocommit;
        committed = opened.0.clean;
        listed = listed;
      } in
      let tells = at.told told clean in (
        tells,
        (at.rows tells).1 ∙ rows,
        λ db left. elim (at.safe.crash told clean db left) [
          | inl same ↦ subst (HasList list) (sym same) it
          | inr has ↦ subst (λ l. HasList l db) rows has
        ],
      )
