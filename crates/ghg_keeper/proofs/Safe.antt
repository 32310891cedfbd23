-- What is safe after each statement of the keeper.
use Rattle.std.proofs.Common.{◌≡◌, ◌⊎◌, inl, inr, ℕ, List, Bool, true, false, Result, Ok, Err, OnOk, IsErr, IsTrue, refl, sym, subst, ◌∙◌}
use Rattle.sqlite_disk.specs.Disk.{MoreFaults}
use Rattle.sqlite.specs.Order.{Row}
use Rattle.sqlite.specs.Tree.{Trees}
use Rattle.sqlite.specs.declared.error.Error.{Error}
use Rattle.sqlite.specs.Effect.{Database}
use Rattle.sqlite.specs.State.{State, HasCleanDisk, Executes, CommitsBy, CommitsShowing, Survives, QueriesRow}
use Rattle.sqlite.proofs.StateLemmas.{survives_weaker}
use Rattle.ghg_keeper.specs.Listed.{Lists, TellsAs, TellsRows, ListsRows, IsSafe, IsBeforeOrAfter, sql_shelf}
use Rattle.ghg_keeper.specs.Moving.{CommitsNone, Leaves}
use Rattle.ghg_keeper.specs.Shelf.{StaysTold}
use Rattle.ghg_keeper.specs.declared.keeper.KeepError.{KeepError}
use Rattle.ghg_keeper.specs.Texts.{insert_text}
use Rattle.ghg_keeper.proofs.Meanings.{given}
use Rattle.ghg_keeper.proofs.Texts.{IsRead, reads_only}
use Rattle.ghg_keeper.proofs.Effects.{OnlyCommitted, after_refusal, after_read, answered, insert_stays_told, insert_survives, told_survives, was_clean}

-- ---- what holds after any call

-- rows that were told are told while the store is open
pub told_after : (Lists : Database → Type 0) (old new : State) → TellsAs Lists old → HasCleanDisk new → Leaves old new → IsTrue new.is_open → TellsAs Lists new
told_after Lists old new t clean (inl same) live = record {
  clean = clean;
  is_open = live;
  autocommit = same.0.mode ∙ t.autocommit;
  committed = same.0.now_is ∙ t.committed ∙ sym same.0.committed_is;
  listed = subst Lists (sym same.0.now_is) t.listed;
}
told_after Lists old new t clean (inr back) live =
    let undone = back.undone live in
    record {
      clean = clean;
      is_open = live;
      autocommit = back.autocommit;
      committed = undone.0 ∙ sym undone.1;
      listed = subst Lists (t.committed ∙ sym undone.0) t.listed;
    }

-- or else the disk failed or refused
told_unless : {A E : Type 0} {P : Trees → Type 0} (old new : State) (r : Result A E) → IsErr r → Survives old new P → TellsRows old → HasCleanDisk new → Leaves old new
    → TellsRows new ⊎ (IsErr r × MoreFaults old.faults new.faults)
told_unless old new r failed s t clean left = elim (s.closes clean t.is_open) [
  | inl live ↦ inl (told_after ListsRows old new t clean left live)
  | inr more ↦ inr (failed, more)
]

left_as_before : (old : State) (db : Trees) → TellsRows old → OnlyCommitted old → old.may_leave db → db ≡ old.now.trees
left_as_before old db t settled left = told_survives old t settled db left

-- ---- reads

commits_none : {X : Type 0} (s : State) (sql : List ℕ) (params : Row) (db : Trees) → IsRead sql → CommitsShowing sql params s db → X
unfolding CommitsShowing
commits_none s sql params db is h = absurd (let e = rw (reads_only s.now.schema h.0 sql is h.1.is) at h.2 in cc)

pub read_survives : (old new : State) (sql : List ℕ) (params : Row) → IsRead sql → Survives old new (CommitsShowing sql params old) → Survives old new CommitsNone
read_survives old new sql params is s = survives_weaker old new (CommitsShowing sql params old) CommitsNone (λ c db h. commits_none old sql params db is h) s

read_told : (old new : State) (sql : List ℕ) (params : Row) (r : Result Row Error) (P : Trees → Type 0) → IsRead sql → Survives old new P
    → QueriesRow sql params old new r → TellsRows old → HasCleanDisk new → TellsRows new ⊎ (IsErr r × MoreFaults old.faults new.faults)
read_told old new sql params (Ok row) P is s h t clean = let same = answered old new sql params row is h in inl (told_after ListsRows old new t clean (inl same) same.0.is_open)
read_told old new sql params (Err e) P is s h t clean = told_unless {A = Row} old new (Err e) refl s t clean (after_read old new sql params (Err e) is h)

pub read_safe : (old new : State) (sql : List ℕ) (params : Row) (r : Result Row Error) → IsRead sql → Survives old new (CommitsShowing sql params old)
    → (HasCleanDisk new → QueriesRow sql params old new r) → (IsTrue old.is_open → OnlyCommitted old) → (IsTrue new.is_open → OnlyCommitted new) → IsSafe old new r (λ db. db ≡ old.now.trees)
read_safe old new sql params r is s read before after = record {
  clean = was_clean s;
  told = λ t clean. read_told old new sql params r _ is s (read clean) t clean;
  crash = λ t clean db left. elim (s.crash clean db left) [
    | inl was ↦ left_as_before old db t (before t.is_open) was
    | inr commits ↦ commits_none old sql params db is commits
  ];
  durable = λ t. told_survives new t (after t.is_open);
}

-- ---- the insert

insert_told : (old new : State) (id body : List ℕ) (r : Result ℕ Error) (P : Trees → Type 0) → Survives old new P → (HasCleanDisk new → Executes insert_text (given id body) old new r) → TellsRows old
    → HasCleanDisk new → TellsRows new ⊎ (IsErr r × MoreFaults old.faults new.faults)
insert_told old new id body (Ok count) P s ran t clean = inl (insert_stays_told old new id body (Ok count) t clean ran)
insert_told old new id body (Err e) P s ran t clean = told_unless {A = ℕ} old new (Err e) refl s t clean (after_refusal old new insert_text (given id body) e (ran clean))

pub insert_safe : (old new : State) (id body : List ℕ) (r : Result ℕ Error) → Survives old new (CommitsBy insert_text (given id body) old)
    → (HasCleanDisk new → Executes insert_text (given id body) old new r) → (IsTrue old.is_open → OnlyCommitted old) → (IsTrue new.is_open → OnlyCommitted new)
    → IsSafe old new r (IsBeforeOrAfter old.now id body)
insert_safe old new id body r s ran before after = record {
  clean = was_clean s;
  told = λ t clean. insert_told old new id body r _ s ran t clean;
  crash = λ t clean db left. insert_survives old new id body t (before t.is_open) s clean db left;
  durable = λ t. told_survives new t (after t.is_open);
}

-- ---- a call of the keeper

-- rows stay told where it has an answer and the store is clean
pub stays_told : {A : Type 0} {P : Trees → Type 0} (a b : Bool) (old new : State) (n m : ℕ) (r : Result A KeepError) → (b ≡ a) × OnOk r (a ≡ true) → IsSafe old new r P
    → StaysTold (sql_shelf a old n) (sql_shelf b new m) r
stays_told a b old new n m (Err e) is s t clean = tt
stays_told true b old new n m (Ok answer) is s t clean = subst (λ x. TellsAs (Lists x) new) (sym is.0) (elim (s.told t clean) [
  | inl told ↦ told
  | inr failed ↦ absurd (let e = failed.0 in cc)
])
stays_told false b old new n m (Ok answer) is s t clean = absurd (let e = is.1 in cc)
