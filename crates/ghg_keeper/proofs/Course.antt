-- What was run, call by call.
use Rattle.std.proofs.Common.{◌≡◌, ◌≢◌, inl, inr, ℕ, zero, suc, ◌+◌, ◌<◌, ◌-◌, ◌^◌, pos, List, [], ◌∷◌, Bool, true, false, not, Result, Ok, Err, IfOk, IfErr, IsErr, refl, sym, subst, ◌∙◌, arith}
use Rattle.sqlite_trees.specs.declared.store.Store.{Ghosts}
use Rattle.sqlite.specs.declared.types.Value.TheVariants.{Int, Text, Blob}
use Rattle.sqlite.specs.declared.error.Error.{Error}
use Rattle.sqlite.specs.declared.error.Error.TheVariants.{SqliteFailure}
use Rattle.sqlite.specs.declared.error.ErrorCode.TheVariants.{OutOfMemory}
use Rattle.sqlite.specs.Order.{Row, column}
use Rattle.sqlite.specs.State.{HasCleanDisk, QueriesRow, Shown}
use Rattle.sqlite.specs.Held.{Held, state}
use Rattle.ghg_keeper.specs.declared.row.KeptRow.{KeptRow}
use Rattle.ghg_keeper.specs.declared.keeper.KeepError.{KeepError}
use Rattle.ghg_keeper.specs.Course.{Act, Then, Needs, Runs, Counts, ReadsFirst, CopiesRow, CopiesRows, MovesRows, MovesFirst, OrRollsBack, Prepares, LacksTable}
use Rattle.ghg_keeper.specs.Accepted.{has_kept_tables}
use Rattle.ghg_keeper.specs.Errors.{IsCount, IsKept, keep_error, told_of}
use Rattle.ghg_keeper.specs.Texts.{count_text, first_row_text, insert_text, roll_back_text}
use Rattle.ghg_keeper.proofs.Meanings.{given}

one_is : {A : Type 0} (x y : A) → x ∷ [] ≡ y ∷ [] → x ≡ y
one_is x y e = cc

-- no transaction is open where the mode is autocommit
pub is_closed : (autocommit is_open : Bool) → autocommit ≡ true → autocommit ≡ not is_open → is_open ≡ false
is_closed autocommit true is value = absurd (let e = sym is ∙ value in cc)
is_closed autocommit false is value = refl

module _ {S : Type 0} (g : Ghosts S) where
  -- a query of one row, and what was read from the row
  pub counts_row : (sql : List ℕ) (old new : Held S) (row : Row) (r : Result ℕ Error) → (HasCleanDisk (state g new) → QueriesRow sql [] (state g old) (state g new) (Ok row))
      → IfOk r (λ n. (n < 2 ^ 63 - 1) × (column row 0 ≡ Int (pos n))) → IfErr r (λ e. e ≢ SqliteFailure OutOfMemory → ¬ IsCount row) → Counts g sql old new r
  counts_row sql old new row (Ok n) shows is none = (row, shows, is.1)
  counts_row sql old new row (Err e) shows is none = inr (row, shows, none)

  pub reads_one : (seq : ℕ) (old new : Held S) (rows : List Row) (row : Row) (r : Result KeptRow Error) → (HasCleanDisk (state g new) → Shown first_row_text (Int (pos seq) ∷ []) (state g old) (state g new) rows) → rows ≡ row ∷ []
      → IfOk r (λ kept. column row 0 ≡ Text kept.id) → IfOk r (λ kept. column row 1 ≡ Blob kept.body) → IfErr r (λ e. e ≢ SqliteFailure OutOfMemory → ¬ IsKept row) → ReadsFirst g seq old new r
  reads_one seq old new rows row (Ok kept) shown alone id body none = (rows, shown, (row, alone, (id, body)))
  reads_one seq old new rows row (Err e) shown alone id body none = inr (rows, shown, λ other one. none other (subst IsKept (one_is one.0 row (sym one.1 ∙ alone)) one.2))

  -- one row more was copied
  pub copies_more : (n : ℕ) (a b c : Held S) → CopiesRows g n a b (Ok tt) → CopiesRow g (n + 1) b c (Ok tt) → CopiesRows g (n + 1) a c (Ok tt)
  copies_more n a b c before row =
      let step : suc n ≡ n + 1 = omega arith in
      let more : CopiesRows g (suc n) a c (Ok tt) = inr (tt, b, before, subst (λ k. CopiesRow g k b c (Ok tt)) (sym step) row) in
      subst (λ k. CopiesRows g k a c (Ok tt)) step more

  copies_after : (d k n : ℕ) (a c : Held S) (e : Error) → n ≡ d + (k + 1) → CopiesRows g (k + 1) a c (Err e) → CopiesRows g n a c (Err e)
  copies_after zero k n a c e is h = subst (λ m. CopiesRows g m a c (Err e)) (omega (arith, is)) h
  copies_after (suc d) k zero a c e is h = absurd (omega (arith, is))
  copies_after (suc d) k (suc n) a c e is h = inl (e, copies_after d k n a c e (omega (arith, is)) h, refl)

  -- a row was refused
  pub copies_out : (k n : ℕ) (a b c : Held S) (e : Error) → k < n → CopiesRows g k a b (Ok tt) → CopiesRow g (k + 1) b c (Err e) → CopiesRows g n a c (Err e)
  copies_out k n a b c e less before row =
      let step : suc k ≡ k + 1 = omega arith in
      let more : CopiesRows g (suc k) a c (Err e) = inr (tt, b, before, subst (λ m. CopiesRow g m b c (Err e)) (sym step) row) in
      copies_after (n - (k + 1)) k n a c e (omega (arith, less)) (subst (λ m. CopiesRows g m a c (Err e)) step more)

  -- the move was refused, and rolled back, or was not
  pub rolls_back : (Does : Act g (Unit {0})) (old mid new : Held S) (r : Result (Unit {0}) Error) (back : Result ℕ Error) → IsErr r → Does old mid r → Runs g roll_back_text [] mid new back → OrRollsBack g Does old new r
  rolls_back Does old mid new (Ok x) back failed does ran = absurd cc
  rolls_back Does old mid new (Err e) back failed does ran = (mid, does, inr (back, ran))

  pub rolls_none : (Does : Act g (Unit {0})) (old new : Held S) (r : Result (Unit {0}) Error) → Does old new r → (IsErr r → (state g new).in_transaction ≡ false) → OrRollsBack g Does old new r
  rolls_none Does old new (Ok x) does closed = does
  rolls_none Does old new (Err e) does closed = (new, does, inl (refl, closed refl))

  -- the first table had rows
  pub moves_first : (n : ℕ) (old new : Held S) (r : Result (Unit {0}) Error) → n ≢ 0 → Then g (Counts g count_text) (λ others. Then g (Needs g (λ _. others ≡ 0)) (λ _. MovesRows g n)) old new r → MovesFirst g n old new r
  moves_first zero old new r some h = absurd (some refl)
  moves_first (suc n) old new r some h = h

  -- what is told of the answer
  pub prepared_ok : (old new : Held S) (r : Result (Unit {0}) Error) (x : Unit {0}) → ◌≡◌ {A = Result (Unit {0}) KeepError} (Ok x) (told_of r) → Prepares g old new r → Prepares g old new (Ok tt)
  prepared_ok old new (Ok y) x is h = h
  prepared_ok old new (Err e) x is h = absurd cc

  pub prepared_err : (old new : Held S) (r : Result (Unit {0}) Error) (why : KeepError) → ◌≡◌ {A = Result (Unit {0}) KeepError} (Err why) (told_of r) → Prepares g old new r → (e : Error) × Prepares g old new (Err e) × (why ≡ keep_error e)
  prepared_err old new (Ok y) why is h = absurd cc
  prepared_err old new (Err e) why is h = (e, h, cc)

  -- the row that is inserted is the one that was read
  pub row_runs : (id body : List ℕ) (row : KeptRow) (old new : Held S) (r : Result ℕ Error) → id ≡ row.id → body ≡ row.body → Runs g insert_text (given id body) old new r → Runs g insert_text (given row.id row.body) old new r
  row_runs id body row old new r same_id same_body h = subst (λ i. Runs g insert_text (given i row.body) old new r) same_id (subst (λ b. Runs g insert_text (given id b) old new r) same_body h)

  -- a table is not there, though nothing was refused
  pub lacks_after : (b : Bool) (old new : Held S) → b ≡ false → Prepares g old new (Ok tt) → has_kept_tables new.schema ≡ false → LacksTable g b old new
  lacks_after b old new is prepared lacks = subst (λ x. LacksTable g x old new) (sym is) (prepared, lacks)

  pub lacks_again : (b : Bool) (held : Held S) → b ≡ true → has_kept_tables held.schema ≡ false → LacksTable g b held held
  lacks_again b held is lacks = subst (λ x. LacksTable g x held held) (sym is) (refl, lacks)
