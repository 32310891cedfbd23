-- What the keeper tells after a call, by what its statement left.
use Rattle.std.proofs.Common.{◌≡◌, ◌⊎◌, ℕ, zero, suc, ◌+◌, ◌-◌, ◌<◌, ◌^◌, ℤ, pos, unsigned_abs, List, [], ◌∷◌, ◌++◌, map, length, slice_get, option_map, Bool, true, false, codes, Some, Result, Ok, Err, IfOk, OnOk, IsErr, IsTrue, inl, inr, length-append, refl, sym, ap, subst, ◌∙◌}
use Rattle.std.proofs.lemmas.List.{length-map}
use Rattle.sqlite.specs.declared.types.Value.TheVariants.{Int, Text, Blob}
use Rattle.sqlite.specs.Order.{Row, column, bytes}
use Rattle.sqlite.specs.declared.error.Error.{Error}
use Rattle.sqlite.specs.State.{State, HasCleanDisk, Survives}
use Rattle.sqlite_sql.specs.Aggregate.{count}
use Rattle.ghg_keeper.specs.declared.row.KeptRow.{KeptRow}
use Rattle.ghg_keeper.specs.declared.keeper.KeepError.{KeepError}
use Rattle.ghg_keeper.specs.Errors.{told_of}
use Rattle.ghg_keeper.specs.Listed.{Appends, IsSafeAs, Lists, ListsStore, TellsAs, TellsRows, TellsStore, Stays, kept_of, kept_rows, second_rows, sql_shelf, stored, value_of}
use Rattle.sqlite_schema.specs.Names.{same_name}
use Rattle.ghg_keeper.specs.Accepted.{second}
use Rattle.ghg_keeper.specs.Moving.{CommitsList, IsBeforeOrMoved, IsReady, KeepsList, Rests}
use Rattle.ghg_keeper.proofs.Effects.{OnlyCommitted, told_survives, was_clean}
use Rattle.ghg_keeper.specs.Shelf.{Adds, Keeps, KeepsRows}
use Rattle.ghg_keeper.proofs.Making.{listed}
use Rattle.ghg_keeper.proofs.Moving.{map_append, ready_tells, size_of, tells_store}

-- of a store whose rows are told, those of the second table are the list
rows_are : (s : State) → TellsRows s → kept_rows s.now ≡ map kept_of (second_rows s.now)
rows_are s t = ap (λ first. listed first (second_rows s.now)) t.listed.first

as_rows : (b : Bool) (s : State) → b ≡ true → TellsAs (Lists b) s → TellsRows s
as_rows b s is t = subst (λ x. TellsAs (Lists x) s) is t

of_rows : (b : Bool) (s : State) → b ≡ true → TellsRows s → TellsAs (Lists b) s
of_rows b s is t = subst (λ x. TellsAs (Lists x) s) (sym is) t

pub shelf_keeps : (b : Bool) (old new : State) (n m : ℕ) → b ≡ true → (HasCleanDisk new → HasCleanDisk old) → Stays old new → Keeps (sql_shelf b old n) (sql_shelf b new m)
shelf_keeps b old new n m is clean s = record {
  rows = record { clean = clean; told = λ t. of_rows b old is (s (as_rows b new is t)).0; same = λ t. ap kept_rows (s (as_rows b new is t)).1 };
  name = refl;
}

more_rows : (old new : State) (id body : List ℕ) → TellsRows new → Appends old new id body → kept_rows new.now ≡ kept_rows old.now ++ record { id = id; body = body } ∷ []
unfolding same_name
more_rows old new id body t a =
    rows_are new t ∙ ap (map kept_of) a.rows ∙ map_append kept_of (second_rows old.now) (stored (length (second_rows old.now) + 1) id body ∷ [])
    ∙ ap (λ (rows : List KeptRow). rows ++ record { id = id; body = body } ∷ []) (sym (rows_are old a.told))

pub shelf_adds : (b : Bool) (old new : State) (n m : ℕ) (id body : List ℕ) → b ≡ true → (HasCleanDisk new → HasCleanDisk old) → (TellsRows new → Appends old new id body)
    → Adds (sql_shelf b old n) (sql_shelf b new m) (record { id = id; body = body })
shelf_adds b old new n m id body is clean appends = record {
  clean = clean;
  told = λ t. of_rows b old is (appends (as_rows b new is t)).told;
  more = λ t. let told = as_rows b new is t in more_rows old new id body told (appends told);
  name = refl;
}

pub shelf_number : (b : Bool) (old new : State) (id body : List ℕ) (v : ℕ) (z : ℤ) → b ≡ true → (TellsRows new → Appends old new id body) → v ≡ unsigned_abs z → z ≡ new.last_rowid → TellsAs (Lists b) new
    → v ≡ length (kept_rows new.now)
shelf_number b old new id body v z is appends value last t =
    let told = as_rows b new is t in
    let a = appends told in
    let size : length (kept_rows new.now) ≡ length (second_rows old.now) + 1 = ap length (rows_are new told) ∙ length-map (second_rows new.now) kept_of ∙ ap length a.rows ∙ length-append (second_rows old.now) (stored (length (second_rows old.now) + 1) id body ∷ []) in
    value ∙ ap unsigned_abs (last ∙ a.number) ∙ sym size

counted_of : {A : Type 0} (P : A → Type 0) (r : Result A Error) → IfOk r P → IfOk (told_of r) P
counted_of P (Ok x) h = h
counted_of P (Err e) h = tt

pub shelf_count : (b : Bool) (old new : State) (row : Row) (r : Result ℕ Error) → b ≡ true → Stays old new → (TellsRows new → row ≡ count (length (second_rows old.now)) ∷ [])
    → IfOk r (λ n. (n < 2 ^ 63 - 1) × (column row 0 ≡ Int (pos n))) → TellsAs (Lists b) new → IfOk (told_of r) (λ n. n ≡ length (kept_rows old.now))
shelf_count b old new row r is s counts shows t =
    let told = as_rows b new is t in
    let was = (s told).0 in
    let size : length (kept_rows old.now) ≡ length (second_rows old.now) = ap length (rows_are old was) ∙ length-map (second_rows old.now) kept_of in
    counted_of (λ n. n ≡ length (kept_rows old.now)) r (subst (λ k. IfOk r (λ n. n ≡ k)) (sym size) (size_of r row (length (second_rows old.now)) shows (counts told)))

get_map : {A B : Type 0} (f : A → B) (xs : List A) (k : ℕ) → slice_get (map f xs) k ≡ option_map f (slice_get xs k)
get_map f [] k = refl
get_map f (x ∷ xs) zero = refl
get_map f (x ∷ xs) (suc k) = get_map f xs k

pub shelf_row : (b : Bool) (old new : State) (seq : ℕ) (row : Row) (kept : KeptRow) → b ≡ true → Stays old new
    → (TellsRows new → (r : Row) × (slice_get (second_rows old.now) (seq - 1) ≡ Some r) × (row ≡ value_of second (codes "id") r ∷ value_of second (codes "body") r ∷ []))
    → column row 0 ≡ Text kept.id → column row 1 ≡ Blob kept.body → TellsAs (Lists b) new → slice_get (kept_rows old.now) (seq - 1) ≡ Some kept
unfolding same_name
shelf_row b old new seq row kept is s found id body t =
    let told = as_rows b new is t in
    let it = found told in
    let r = it.0 in
    let first : bytes (column r 2) ≡ kept.id = ap bytes (sym (ap (λ (x : Row). column x 0) it.2) ∙ id) in
    let second : bytes (column r 4) ≡ kept.body = ap bytes (sym (ap (λ (x : Row). column x 1) it.2) ∙ body) in
    ap (λ (rows : List KeptRow). slice_get rows (seq - 1)) (rows_are old (s told).0) ∙ get_map kept_of (second_rows old.now) (seq - 1) ∙ ap (option_map kept_of) it.1
    ∙ ap (λ i. let k : KeptRow = record { id = i; body = bytes (column r 4) } in Some k) first ∙ ap (λ x. let k : KeptRow = record { id = kept.id; body = x } in Some k) second

-- ---- attach

pub attach_rows : (b : Bool) (old new : State) (n m : ℕ) → b ≡ false → KeepsList old new → KeepsRows (sql_shelf b old n) (sql_shelf true new m)
attach_rows b old new n m is k = record {
  clean = k.recalls.clean;
  told = λ t. subst (λ x. TellsAs (Lists x) old) (sym is) (k.recalls.told (tells_store new t)).0;
  same = λ t. (k.recalls.told (tells_store new t)).1;
}

-- where it was refused
pub refused_rows : (b : Bool) (old new : State) (n m : ℕ) → b ≡ false → KeepsList old new → KeepsRows (sql_shelf b old n) (sql_shelf b new m)
refused_rows b old new n m is k = record {
  clean = k.recalls.clean;
  told = λ t. subst (λ x. TellsAs (Lists x) old) (sym is) (k.recalls.told (subst (λ x. TellsAs (Lists x) new) is t)).0;
  same = λ t. (k.recalls.told (subst (λ x. TellsAs (Lists x) new) is t)).1;
}

pub attach_told : (b : Bool) (old new : State) → b ≡ false → KeepsList old new → (HasCleanDisk new → IsReady new) → TellsAs (Lists b) old → HasCleanDisk new → TellsRows new
attach_told b old new is k ready t clean =
    let r = ready clean in
    let store : TellsStore old = subst (λ x. TellsAs (Lists x) old) is t in
    ready_tells new r (k.stays store clean r.is_open r.autocommit)

pub again_rows : (b : Bool) (s : State) (n m : ℕ) → b ≡ true → KeepsRows (sql_shelf b s n) (sql_shelf true s m)
again_rows b s n m is = record { clean = λ h. h; told = λ t. of_rows b s is t; same = λ t. refl }

pub again_told : (b : Bool) (s : State) → b ≡ true → TellsAs (Lists b) s → TellsRows s
again_told b s is t = as_rows b s is t

-- what is safe after the tables were prepared
pub attach_safe : {A E : Type 0} (old new : State) (r : Result A E) → (HasCleanDisk new → IsTrue new.is_open ⊎ IsErr r) → KeepsList old new → Rests new → Survives old new (CommitsList old)
    → (IsTrue old.is_open → OnlyCommitted old) → (IsTrue new.is_open → OnlyCommitted new) → IsSafeAs ListsStore old new r (IsBeforeOrMoved old.now)
attach_safe old new r shows k rest s before after = record {
  clean = was_clean s;
  told = λ t clean. elim (shows clean) [
    | inl live ↦ inl (k.stays t clean live (rest clean).autocommit)
    | inr failed ↦ elim (s.closes clean t.is_open) [ inl live ↦ inl (k.stays t clean live (rest clean).autocommit) | inr more ↦ inr (failed, more) ]
  ];
  crash = λ t clean db left. elim (s.crash clean db left) [ inl was ↦ inl (told_survives old t (before t.is_open) db was) | inr made ↦ inr (made t) ];
  durable = λ t. told_survives new t (after t.is_open);
}

-- and where nothing was done
pub same_safe : {A E : Type 0} (s : State) (r : Result A E) → (IsTrue s.is_open → OnlyCommitted s) → IsSafeAs ListsStore s s r (IsBeforeOrMoved s.now)
same_safe s r settled = record {
  clean = λ h. h;
  told = λ t clean. inl t;
  crash = λ t clean db left. inl (told_survives s t (settled t.is_open) db left);
  durable = λ t. told_survives s t (settled t.is_open);
}

-- what holds of a call that has an answer, told of that answer
pub on_told : {A P : Type 0} (r : Result A Error) (x : A) → ◌≡◌ {A = Result A KeepError} (Ok x) (told_of r) → OnOk r P → P
on_told (Ok y) x is p = p
on_told (Err e) x is p = absurd cc
