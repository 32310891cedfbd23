-- What the parts of the move leave.
use Rattle.std.proofs.Common.{◌≡◌, inl, inr, ℕ, suc, ◌+◌, ◌-◌, ◌^◌, ◌<◌, ◌≤◌, get_or, pos, OnOk, OnErr, IfOk, List, [], ◌∷◌, ◌++◌, map, length, slice_get, Bool, true, false, if◌then◌else◌, Option, Some, None, Result, Ok, Err, IsTrue, MatchBool, nat_le, length-append, append-nil, refl, sym, ap, subst, ◌∙◌, arith, find, ◌&&◌}
use Rattle.sqlite.specs.declared.types.Value.TheVariants.{Int, Text, Blob}
use Rattle.sqlite.specs.Order.{Row, column, bytes}
use Rattle.sqlite.specs.Tree.{Trees}
use Rattle.sqlite.specs.declared.error.Error.{Error}
use Rattle.sqlite.specs.declared.run.Mode.{Mode}
use Rattle.sqlite.specs.Table.{Table}
use Rattle.sqlite_schema.specs.declared.program.Program.{Program}
use Rattle.sqlite_schema.specs.declared.command.Command.{Command}
use Rattle.sqlite.specs.Command.TheVariants.{Delete, Begin, Commit, Rollback, Release}
use Rattle.sqlite.specs.Does.{Tally, Does, AtPlace, OnRows}
use Rattle.sqlite.specs.Rows.{Written}
use Rattle.sqlite.specs.Effect.{Database, IsDatabase}
use Rattle.sqlite_resolve.specs.declared.compiled.Compiled.{Compiled}
use Rattle.sqlite.specs.State.{State, HasCleanDisk, mode_of, Writes, Runs, IsUnchanged, IsRolledBack, IsNotRun, RunsAlone, ExecutesIn, shows_rows, Executes, CommitsBy, Survives, text_of}
use Rattle.sqlite.specs.Clock.{timed}
use Rattle.sqlite_sql.specs.Aggregate.{count}
use Rattle.std.proofs.lemmas.Bool.Decides.{nat_tests}
use Rattle.std.proofs.lemmas.Int.{ints}
use Rattle.sqlite.specs.Listing.{understood}
use Rattle.sqlite_tied.specs.Compute.{everything}
use Rattle.sqlite.proofs.Callers.{runs_as}
use Rattle.sqlite.specs.Calls.{IsWrite}
use Rattle.sqlite_resolve.specs.declared.error.CompileError.{CompileError}
use Rattle.ghg_keeper.specs.declared.row.KeptRow.{KeptRow}
use Rattle.ghg_keeper.specs.Accepted.{HasBoth, HasTable, IsAsMade, accepted, are_kept_columns, are_second_columns, has_first, has_kept_tables, has_second, is_kept_table, is_keyed, is_second_table, second}
use Rattle.ghg_keeper.proofs.Tables.{apart_names, found_in, place, rows_there}
use Rattle.ghg_keeper.proofs.Steps.{is_free, writes_spare}
use Rattle.sqlite_schema.specs.Names.{same_name}
use Rattle.std.specs.List.{list_any}
use Rattle.std.proofs.lemmas.Bool.{cases_Bool}
use Rattle.ghg_keeper.specs.Listed.{AreNumbered, HaveEach, ListsStore, ListsRows, TellsStore, TellsRows, kept_first, kept_of, kept_rows, first_rows, numbered_to, second_rows, stored, with_number}
use Rattle.ghg_keeper.specs.Moving.{Moves, HasList, CommitsNone, CommitsMove, CommitsList, Copied, IsMoving, IsCleared, IsCommitted, IsMoved, Leaves, IsWithin, Rests, KeepsList, IsReady}
use Rattle.ghg_keeper.specs.Texts.{insert_text, begin_text, clear_text, commit_text, roll_back_text}
use Rattle.ghg_keeper.proofs.Meanings.{went, same_value, given, both_apart, second_in, Puts, appended}
use Rattle.ghg_keeper.proofs.Texts.{begins, clears, clears_known, commits, inserts, rolls_back}
use Rattle.ghg_keeper.proofs.Effects.{ran_as, after_refusal, inserted_as, inserted_both, more_numbered, was_clean}
use Rattle.sqlite.proofs.StateLemmas.{survives_then, survives_weaker}
use Rattle.sqlite.specs.Schema.{Schema}
use Rattle.ghg_keeper.proofs.Making.{left_rests, listed}

-- ---- in a transaction

pub never_both : {X : Type 0} (b : Bool) → b ≡ true → b ≡ false → X
never_both b is other = absurd (let e = sym is ∙ other in cc)

-- a call in a transaction that did nothing, or was rolled back
pub left_within : (old new : State) → (HasCleanDisk new → HasCleanDisk old) → (HasCleanDisk old → old.in_transaction ≡ true) → (HasCleanDisk new → Leaves old new) → IsWithin old new
left_within old new clean inside left = record {
  clean = clean;
  was_open = λ c live. elim (left c) [ inl same ↦ same.0.was_open | inr back ↦ back.was_open live ];
  committed = λ c live. elim (left c) [ inl same ↦ same.0.committed_is | inr back ↦ (back.undone live).1 ];
  undone = λ c live. elim (left c) [ inl same ↦ inl (same.0.mode ∙ inside (clean c)) | inr back ↦ inr ((back.undone live).0 ∙ sym (back.undone live).1) ];
}

pub within_trans : (a b c : State) → IsWithin a b → IsWithin b c → IsWithin a c
within_trans a b c p q = record {
  clean = λ h. p.clean (q.clean h);
  was_open = λ h live. p.was_open (q.clean h) (q.was_open h live);
  committed = λ h live. q.committed h live ∙ p.committed (q.clean h) (q.was_open h live);
  undone = q.undone;
}

pub within_same : (s : State) → (HasCleanDisk s → s.in_transaction ≡ true) → IsWithin s s
within_same s inside = record { clean = λ h. h; was_open = λ h live. live; committed = λ h live. refl; undone = λ h live. inl (inside h) }

-- a part that went well, and what it left
record Went (old new : State) : Type 0 where
  sound : IsDatabase new.now
  schema : new.now.schema ≡ old.now.schema
  was_open : IsTrue old.is_open
  is_open : IsTrue new.is_open
  mode : new.in_transaction ≡ old.in_transaction
  committed : new.committed ≡ (if old.in_transaction then old.committed else new.now)

within_went : (old new : State) → (HasCleanDisk new → HasCleanDisk old) → (HasCleanDisk old → old.in_transaction ≡ true) → (HasCleanDisk new → Went old new) → IsWithin old new
within_went old new clean inside w = record {
  clean = clean;
  was_open = λ c live. (w c).was_open;
  committed = λ c live. (w c).committed ∙ ap (λ b. if b then old.committed else new.now) (inside (clean c));
  undone = λ c live. inl ((w c).mode ∙ inside (clean c));
}

-- ---- the transaction begins

begun : (old new : State) (count : ℕ) → Executes begin_text [] old new (Ok count) → (IsTrue old.is_open × IsTrue new.is_open × (new.now ≡ old.now) × (new.committed ≡ old.committed) × (new.in_transaction ≡ true))
begun old new count h =
    let r = ran_as old new begin_text [] count h in
    let kind = begins old.now.schema r.c r.statement.is in
    let ran = as_begin old new r.c (timed [] r.c.formats r.statement.now) count kind.0 kind.1 r.ran in
    (ran.1.was_open, ran.1.is_open, ran.1.now_is, ran.1.committed_is, ran.1.mode)
  where
    as_begin : (old new : State) (c : Compiled) (params : Row) (count : ℕ) → c.returning ≡ None → c.command ≡ Begin → RunsAlone false old new begin_text c params (Ok count) → Runs old new None Begin (text_of begin_text c) params count
    as_begin old new c params count none is h = rw (none, is) at h

-- a call between two transactions that did nothing, or was rolled back
pub rest_within : (old new : State) → (HasCleanDisk new → HasCleanDisk old) → Rests old → (HasCleanDisk new → Leaves old new) → IsWithin old new
rest_within old new clean rest left = record {
  clean = clean;
  was_open = λ c live. elim (left c) [ inl same ↦ same.0.was_open | inr back ↦ back.was_open live ];
  committed = λ c live. elim (left c) [ inl same ↦ same.0.committed_is | inr back ↦ (back.undone live).1 ];
  undone = λ c live. inr (elim (left c) [ inl same ↦ same.0.now_is ∙ (rest (clean c)).settled same.0.was_open ∙ sym same.0.committed_is | inr back ↦ (back.undone live).0 ∙ sym (back.undone live).1 ]);
}

pub begin_within : (old new : State) (r : Result ℕ Error) → (HasCleanDisk new → HasCleanDisk old) → Rests old → (HasCleanDisk new → Executes begin_text [] old new r) → IsWithin old new
begin_within old new (Ok count) clean rest ran = record {
  clean = clean;
  was_open = λ c live. (begun old new count (ran c)).0;
  committed = λ c live. (begun old new count (ran c)).3;
  undone = λ c live. inl (begun old new count (ran c)).4;
}
begin_within old new (Err e) clean rest ran = rest_within old new clean rest (λ c. after_refusal old new begin_text [] e (ran c))

pub begin_moving : (old new : State) (r : Result ℕ Error) → (HasCleanDisk new → HasCleanDisk old) → Rests old → (HasCleanDisk new → Executes begin_text [] old new r) → HasCleanDisk new → OnOk r (IsMoving 0 new)
begin_moving old new (Err e) clean rest ran c = tt
begin_moving old new (Ok count) clean rest ran c =
    let it = begun old new count (ran c) in
    let same : new.now ≡ new.committed = it.2 ∙ (rest (clean c)).settled it.0 ∙ sym it.3 in
    record {
      is_open = it.1;
      in_transaction = it.4;
      schema = ap (λ (d : Database). d.schema) same;
      holds = λ both none.
          let empty : second_rows new.now ≡ [] = ap second_rows same ∙ none in
          (record { each = tt; size = ap length empty; numbered = subst (AreNumbered 1) (sym empty) tt; rows = ap (map kept_of) empty }, ap first_rows same);
    }

pub begin_rests : (old new : State) (r : Result ℕ Error) → (HasCleanDisk new → HasCleanDisk old) → Rests old → (HasCleanDisk new → Executes begin_text [] old new r) → OnErr r (Rests new)
begin_rests old new (Ok count) clean rest ran = tt
begin_rests old new (Err e) clean rest ran = left_rests old new rest clean (λ c. after_refusal old new begin_text [] e (ran c))

-- ---- one row more

pub map_append : {A B : Type 0} (f : A → B) (xs ys : List A) → map f (xs ++ ys) ≡ map f xs ++ map f ys
map_append f [] ys = refl
map_append f (x ∷ xs) ys = ap (λ all. f x ∷ all) (map_append f xs ys)

copied_more : (n : ℕ) (first rows after : List Row) (id body : List ℕ) (r : Row) (origin now next : Database) → HaveEach n (first_rows origin) → Copied n origin now
    → with_number (suc n) (first_rows origin) ≡ r ∷ [] → record { id = id; body = body } ≡ kept_first r
    → second_rows next ≡ second_rows now ++ stored (length (second_rows now) + 1) id body ∷ [] → Copied (suc n) origin next
unfolding same_name
copied_more n first rows after id body r origin now next each c one is more =
    let row = stored (length (second_rows now) + 1) id body in
    record {
      each = (each, ap length one);
      size = ap length more ∙ length-append (second_rows now) (row ∷ []) ∙ omega (arith, c.size);
      numbered = subst (AreNumbered 1) (sym more) (more_numbered (second_rows now) id body c.numbered);
      rows = ap (map kept_of) more ∙ map_append kept_of (second_rows now) (row ∷ []) ∙ ap (λ all. all ++ record { id = id; body = body } ∷ []) c.rows
          ∙ ap (λ k. map kept_first (numbered_to n (first_rows origin)) ++ k ∷ []) is
          ∙ sym (map_append kept_first (numbered_to n (first_rows origin)) (with_number (suc n) (first_rows origin)) ∙ ap (λ rs. map kept_first (numbered_to n (first_rows origin)) ++ map kept_first rs) one);
    }

insert_went : (old new : State) (id body : List ℕ) (count : ℕ) → Executes insert_text (given id body) old new (Ok count) → Went old new
insert_went old new id body count h = let is = inserted_as old new id body count h in record { sound = is.5; schema = is.0; was_open = is.1; is_open = is.2; mode = is.3; committed = is.4 }

pub insert_within : (old new : State) (id body : List ℕ) (r : Result ℕ Error) → (HasCleanDisk new → HasCleanDisk old) → (HasCleanDisk old → old.in_transaction ≡ true)
    → (HasCleanDisk new → Executes insert_text (given id body) old new r) → IsWithin old new
insert_within old new id body (Err e) clean inside ran = left_within old new clean inside (λ c. after_refusal old new insert_text (given id body) e (ran c))
insert_within old new id body (Ok count) clean inside ran = within_went old new clean inside (λ c. insert_went old new id body count (ran c))

-- the row that was read, where it is the only one of its number
abbrev pub IsOnly : ℕ → Database → KeptRow → Type 0
IsOnly seq db row = (r : Row) × (with_number seq (first_rows db) ≡ r ∷ []) × (row ≡ kept_first r)

pub only_text : (id body : List ℕ) (row : KeptRow) (seq : ℕ) (db : Database) → IsOnly seq db row → id ≡ row.id → body ≡ row.body → IsOnly seq db (record { id = id; body = body })
only_text id body row seq db only same_id same_body =
    (only.0, only.1, ap (λ i. let k : KeptRow = record { id = i; body = body } in k) same_id ∙ ap (λ b. let k : KeptRow = record { id = row.id; body = b } in k) same_body ∙ only.2)

pub alone_of : (xs : List Row) (r : Row) → r ≡ get_or xs 0 r → 1 ≤ length xs → length xs < 2 → xs ≡ r ∷ []
alone_of [] r is least most = absurd (omega (arith, least))
alone_of (x ∷ []) r is least most = ap (λ y. y ∷ []) (sym is)
alone_of (x ∷ y ∷ xs) r is least most = absurd (omega (arith, most))

pub only_kept : (seq : ℕ) (db : Database) (result : Result KeptRow Error) (row : Row) → IfOk result (λ k. column row 0 ≡ Text k.id) → IfOk result (λ k. column row 1 ≡ Blob k.body)
    → (r : Row) × (with_number seq (first_rows db) ≡ r ∷ []) × (row ≡ column r 2 ∷ column r 3 ∷ []) → IfOk result (IsOnly seq db)
unfolding same_name
only_kept seq db (Err e) row id body found = tt
only_kept seq db (Ok k) row id body found =
    let r = found.0 in
    let first : k.id ≡ bytes (column r 2) = ap bytes (sym id ∙ ap (λ (x : Row). column x 0) found.2) in
    let second : k.body ≡ bytes (column r 3) = ap bytes (sym body ∙ ap (λ (x : Row). column x 1) found.2) in
    (r, found.1, ap (λ i. let it : KeptRow = record { id = i; body = k.body } in it) first ∙ ap (λ b. let it : KeptRow = record { id = bytes (column r 2); body = b } in it) second)

pub copies_on : (n : ℕ) (old mid new : State) (id body : List ℕ) (count : ℕ) → IsMoving n old → IsUnchanged old mid → (HasBoth old.now.schema → IsOnly (n + 1) old.now (record { id = id; body = body }))
    → Executes insert_text (given id body) mid new (Ok count) → IsMoving (n + 1) new
copies_on n old mid new id body count m same only ran =
    let w = insert_went mid new id body count ran in
    let inside : mid.in_transaction ≡ true = same.0.mode ∙ m.in_transaction in
    let base : new.committed ≡ old.committed = w.committed ∙ ap (λ b. if b then mid.committed else new.now) inside ∙ same.0.committed_is in
    let kept : new.now.schema ≡ old.now.schema = w.schema ∙ ap (λ (d : Database). d.schema) same.0.now_is in
    record {
      is_open = w.is_open;
      in_transaction = w.mode ∙ inside;
      schema = kept ∙ m.schema ∙ sym (ap (λ (d : Database). d.schema) base);
      holds = λ both none.
          let was : HasBoth old.now.schema = subst HasBoth kept both in
          let h = m.holds was (ap second_rows (sym base) ∙ none) in
          let put = subst (λ d. Puts d new.now id body) same.0.now_is (inserted_both mid new id body count (subst (λ (d : Database). HasBoth d.schema) (sym same.0.now_is) was) ran).0 in
          let more = appended old.now new.now id body h.0.numbered put in
          let step : suc n ≡ n + 1 = omega arith in
          let one = only was in
          let found : with_number (suc n) (first_rows old.committed) ≡ one.0 ∷ [] = ap (λ rs. with_number (suc n) rs) (sym h.1) ∙ ap (λ k. with_number k (first_rows old.now)) step ∙ one.1 in
          let all = copied_more n [] [] [] id body one.0 old.committed old.now new.now h.0.each h.0 found one.2 more in
          (subst (λ (d : Database). Copied (n + 1) d new.now) (sym base) (subst (λ k. Copied k old.committed new.now) step all), put.others accepted.name apart_names.1 ∙ h.1 ∙ ap first_rows (sym base));
    }

-- ---- the first table is cleared

delete_schema : (limit : Option ℕ) (mode : Mode) (params : Row) (db after : Database) (text : List ℕ) (tally : Tally) (at : ℕ) (q : Program)
    → Does limit mode params db text None (Delete at q) (Ok (tally, after)) → after.schema ≡ db.schema
delete_schema limit mode params db after text tally at q h = on_table (slice_get db.schema.tables at) h
  where
    on_table : (o : Option Table) → AtPlace (λ table. OnRows (record { limit = limit; keys = mode.keys; schema = db.schema; table = table; params = params }) mode None (Delete at q) db.trees) o (Ok (tally, after)) → after.schema ≡ db.schema
    on_table None refuses = absurd (cc)
    on_table (Some table) on = let both = same_value (went (went (went on).2).2).2 in ap (λ (p : Tally × Database). p.1.schema) both

clear_went : (old new : State) (count : ℕ) → Executes clear_text [] old new (Ok count) → Went old new
clear_went old new count h =
    let r = ran_as old new clear_text [] count h in
    let kind = clears old.now.schema r.c r.statement.is in
    let params = timed [] r.c.formats r.statement.now in
    let w = as_delete old new r.c params count kind.1.0 kind.1.1 kind.0 kind.1.2 r.ran in
    record {
      sound = w.sound;
      schema = delete_schema old.step_limit (mode_of old) params old.now new.now (text_of clear_text r.c) w.tally kind.1.0 kind.1.1 w.changed;
      was_open = w.shown.was_open;
      is_open = w.shown.is_open;
      mode = w.shown.mode;
      committed = w.shown.committed_is;
    }
  where
    as_delete : (old new : State) (c : Compiled) (params : Row) (count at : ℕ) (q : Program) → c.returning ≡ None → c.command ≡ Delete at q → RunsAlone false old new clear_text c params (Ok count) → Writes old new None (Delete at q) (text_of clear_text c) params count
    as_delete old new c params count at q none is h = rw (none, is) at h

-- the second table stays
clear_keeps : (old new : State) (count : ℕ) → HasBoth old.now.schema → Executes clear_text [] old new (Ok count) → second_rows new.now ≡ second_rows old.now
clear_keeps old new count b h =
    let schema = old.now.schema in
    let db = old.now.trees in
    let p = place accepted schema b.first in
    let r = ran_as old new clear_text [] count h in
    let k = clears_known schema r.c p.at p.named r.statement.is in
    let w = runs_as clear_text [] old new schema refl (Delete p.at k.0) k.1.is k.1.plain count h in
    let done = went (subst (λ o. AtPlace (λ table. OnRows (record { limit = old.step_limit; keys = (mode_of old).keys; schema = schema; table = table; params = [] }) (mode_of old) None (Delete p.at k.0) db) o (Ok (w.tally, new.now))) p.there w.changed) in
    let both = same_value (went (went done.2).2).2 in
    let now = ap (λ (p : Tally × Database). p.1) both in
    let written = went (went done.1).2 in
    let next : Database = record old.now { trees = written.0 } in
    let same : new.now ≡ next = now ∙ ap (λ (it : Written). let d : Database = record old.now { trees = it.trees } in d) (same_value written.2) in
    let at = (found_in (λ (t : Table). same_name t.name second.name) schema.tables _ b.second.found).0 in
    let spared = writes_spare schema _ (second_in b.second.tree) at (is_free schema.tables _ b.apart at refl) db written.0 _ (both_apart schema b) written.1 in
    ap second_rows same ∙ rows_there second next b.second ∙ spared ∙ sym (rows_there second old.now b.second)

pub clear_within : (old new : State) (r : Result ℕ Error) → (HasCleanDisk new → HasCleanDisk old) → (HasCleanDisk old → old.in_transaction ≡ true) → (HasCleanDisk new → Executes clear_text [] old new r) → IsWithin old new
clear_within old new (Err e) clean inside ran = left_within old new clean inside (λ c. after_refusal old new clear_text [] e (ran c))
clear_within old new (Ok count) clean inside ran = within_went old new clean inside (λ c. clear_went old new count (ran c))

pub clear_inside : (old new : State) (count : ℕ) → Executes clear_text [] old new (Ok count) → old.in_transaction ≡ true → new.in_transaction ≡ true
clear_inside old new count h inside = (clear_went old new count h).mode ∙ inside

pub clear_sound : (old mid new : State) (count : ℕ) → Executes clear_text [] old mid (Ok count) → IsUnchanged mid new → IsDatabase new.now
clear_sound old mid new count h same = subst IsDatabase (sym same.0.now_is) (clear_went old mid count h).sound

no_rows : (rows : List Row) → 0 ≡ length rows → rows ≡ []
no_rows [] h = refl
no_rows (r ∷ rows) h = absurd (omega (arith, h))

pub clear_clears : (old mid new : State) (count : ℕ) → Executes clear_text [] old mid (Ok count) → IsUnchanged mid new → (HasBoth mid.now.schema → 0 ≡ length (first_rows mid.now)) → (n : ℕ) → IsMoving n old → IsCleared n new
clear_clears old mid new count ran same none n m =
    let w = clear_went old mid count ran in
    let base : new.committed ≡ old.committed = same.0.committed_is ∙ w.committed ∙ ap (λ b. if b then old.committed else mid.now) m.in_transaction in
    let kept : new.now.schema ≡ old.now.schema = ap (λ (d : Database). d.schema) same.0.now_is ∙ w.schema in
    record {
      is_open = same.0.is_open;
      in_transaction = same.0.mode ∙ w.mode ∙ m.in_transaction;
      schema = kept ∙ m.schema ∙ sym (ap (λ (d : Database). d.schema) base);
      holds = λ both empty.
          let was : HasBoth old.now.schema = subst HasBoth kept both in
          let h = m.holds was (ap second_rows (sym base) ∙ empty) in
          let rows : second_rows new.now ≡ second_rows old.now = ap second_rows same.0.now_is ∙ clear_keeps old mid count was ran in (
            subst (λ (d : Database). Copied n d new.now) (sym base) (record { each = h.0.each; size = ap length rows ∙ h.0.size; numbered = subst (AreNumbered 1) (sym rows) h.0.numbered; rows = ap (map kept_of) rows ∙ h.0.rows }),
            ap first_rows same.0.now_is ∙ no_rows (first_rows mid.now) (none (subst HasBoth (sym w.schema) was)),
          );
    }

-- ---- the end of the transaction

pub commit_commits : (old new : State) (r : Result ℕ Error) → (HasCleanDisk new → Executes commit_text [] old new r) → HasCleanDisk new → OnOk r (IsCommitted old new)
commit_commits old new (Err e) ran c = tt
commit_commits old new (Ok count) ran c =
    let r = ran_as old new commit_text [] count (ran c) in
    let kind = commits old.now.schema r.c r.statement.is in
    let it = as_commit old new r.c (timed [] r.c.formats r.statement.now) count kind.0 kind.1 r.ran in
    record { was_open = it.1.was_open; is_open = it.1.is_open; autocommit = it.1.mode; now_is = it.1.now_is; committed_is = it.1.committed_is }
  where
    as_commit : (old new : State) (c : Compiled) (params : Row) (count : ℕ) → c.returning ≡ None → c.command ≡ Commit → RunsAlone false old new commit_text c params (Ok count) → Runs old new None Commit (text_of commit_text c) params count
    as_commit old new c params count none is h = rw (none, is) at h

pub commit_within : (old new : State) (r : Result ℕ Error) → (HasCleanDisk new → HasCleanDisk old) → (HasCleanDisk old → old.in_transaction ≡ true) → (HasCleanDisk new → Executes commit_text [] old new r) → OnErr r (IsWithin old new)
commit_within old new (Ok count) clean inside ran = tt
commit_within old new (Err e) clean inside ran = left_within old new clean inside (λ c. after_refusal old new commit_text [] e (ran c))

-- the text is one statement, which has no parameter and does not read the time
abbrev IsAlone : Result Compiled CompileError → Type 0
IsAlone (Ok c) = (nat_le 8 c.tail ≡ true) × (c.names ≡ []) × (c.formats ≡ [])
IsAlone (Err e) = ⊥

roll_back_alone : (schema : Schema) → IsAlone (understood schema roll_back_text)
unfolding understood everything
roll_back_alone schema = (refl, refl, refl)

roll_back_not_run : (old new : State) (e : Error) → IsNotRun old new roll_back_text [] e → IsRolledBack old new
unfolding IsNotRun
roll_back_not_run old new e (inr failed) = failed.3
roll_back_not_run old new e (inl (inl fault, same)) = absurd (subst IsAlone fault.1 (roll_back_alone old.now.schema))
roll_back_not_run old new e (inl (inr other, same)) =
    let is = subst IsAlone other.1 (roll_back_alone old.now.schema) in
    let whole : nat_le 8 other.0.tail ≡ true = is.0 in
    let reaches : 8 ≤ other.0.tail = grind (arith, nat_tests) in
    elim other.2 [
      | inl more ↦ absurd (more.0 reaches)
      | inr less ↦ elim less [ inl given ↦ absurd (given.0 (ap length (sym is.1))) | inr reads ↦ absurd (reads.0 is.2) ]
    ]

runs_hidden : (A B : Type 0) (b : Bool) → b ≡ false → MatchBool b A B → B
runs_hidden A B true is h = absurd cc
runs_hidden A B false is h = h

roll_back_refused : (old new : State) (c : Compiled) (params : Row) (e : Error) → old.in_transaction ≡ true → c.returning ≡ None → c.command ≡ Rollback
    → RunsAlone false old new roll_back_text c params (Err e) → IsRolledBack old new
roll_back_refused old new c params e inside none is h =
    let hidden : shows_rows false c ≡ false = rw (is, none) refl in
    elim (runs_hidden _ _ (shows_rows false c) hidden h) [
      | inr failed ↦ failed.3
      | inl kept ↦ elim kept.0 [
        | inl misplaced ↦ elim misplaced [
          | inl mode ↦ elim mode.1 [ inl begin ↦ absurd (let x = sym is ∙ begin.0 in cc) | inr ended ↦ never_both old.in_transaction inside ended.1 ]
          | inr mark ↦ elim mark.2 [ inl release ↦ absurd (let x = sym is ∙ release in cc) | inr back ↦ absurd (let x = sym is ∙ back in cc) ]
        ]
        | inr may ↦ elim may.0 [ inl write ↦ absurd (subst IsWrite is write) | inr shows ↦ absurd (let x = rw none at shows in cc) ]
      ]
    ]

as_rollback : (old new : State) (c : Compiled) (params : Row) (count : ℕ) → c.returning ≡ None → c.command ≡ Rollback → RunsAlone false old new roll_back_text c params (Ok count)
    → Runs old new None Rollback (text_of roll_back_text c) params count
as_rollback old new c params count none is h = rw (none, is) at h

-- in a transaction it rolls back, whatever it answers
rolled : (old new : State) (r : Result ℕ Error) → old.in_transaction ≡ true → Executes roll_back_text [] old new r → IsRolledBack old new
unfolding ExecutesIn
rolled old new (Ok count) inside h =
    let kind = rolls_back old.now.schema h.0 h.1.is in
    (as_rollback old new h.0 (timed [] h.0.formats h.1.now) count kind.0 kind.1 h.2).1
rolled old new (Err e) inside (inl h) = roll_back_not_run old new e h
rolled old new (Err e) inside (inr h) =
    let kind = rolls_back old.now.schema h.0 h.1.is in
    roll_back_refused old new h.0 (timed [] h.0.formats h.1.now) e inside kind.0 kind.1 h.2

pub roll_back_within : (old new : State) (r : Result ℕ Error) → (HasCleanDisk new → HasCleanDisk old) → (HasCleanDisk old → old.in_transaction ≡ true) → (HasCleanDisk new → Executes roll_back_text [] old new r) → IsWithin old new
roll_back_within old new r clean inside ran = left_within old new clean inside (λ c. inr (rolled old new r (inside (clean c)) (ran c)))

pub roll_back_rests : (old new : State) (r : Result ℕ Error) → (HasCleanDisk new → HasCleanDisk old) → (HasCleanDisk old → old.in_transaction ≡ true) → (HasCleanDisk new → Executes roll_back_text [] old new r) → Rests new
roll_back_rests old new r clean inside ran = λ c.
    let back = rolled old new r (inside (clean c)) (ran c) in
    record { autocommit = back.autocommit; settled = λ live. (back.undone live).0 ∙ sym (back.undone live).1 }

-- all rows were moved
pub cleared_moves : (n : ℕ) (s : State) → IsDatabase s.now → IsCleared n s → Moves n s.committed s.now
cleared_moves n s sound m = record { sound = sound; schema = m.schema; holds = m.holds }

pub all_moved : (n : ℕ) (a b c : State) → HasCleanDisk b → IsWithin a b → IsDatabase b.now → IsCleared n b → IsCommitted b c → IsMoved n a c
all_moved n a b c clean within sound m it = record {
  was_open = within.was_open clean m.is_open;
  is_open = it.is_open;
  autocommit = it.autocommit;
  committed = it.now_is ∙ sym it.committed_is;
  moved = subst (Moves n a.committed) (sym it.now_is) (subst (λ d. Moves n d b.now) (within.committed clean m.is_open) (cleared_moves n b sound m));
}

-- the same from the state before the transaction
pub moved_from : (n : ℕ) (a b c : State) → HasCleanDisk b → IsWithin a b → IsMoved n b c → IsMoved n a c
moved_from n a b c clean within m = record {
  was_open = within.was_open clean m.was_open;
  is_open = m.is_open;
  autocommit = m.autocommit;
  committed = m.committed;
  moved = subst (λ d. Moves n d c.now) (within.committed clean m.was_open) m.moved;
}

-- ---- the list

pub keeps_trans : (a b c : State) → KeepsList a b → (HasCleanDisk b → b.in_transaction ≡ false) → KeepsList b c → KeepsList a c
keeps_trans a b c p rest q = record {
  recalls = record {
    clean = λ h. p.recalls.clean (q.recalls.clean h);
    was_open = λ h live. p.recalls.was_open (q.recalls.clean h) (q.recalls.was_open h live);
    told = λ t. let it = q.recalls.told t in let before = p.recalls.told it.0 in (before.0, it.1 ∙ before.1);
  };
  stays = λ t h live auto. let was = q.recalls.clean h in q.stays (p.stays t was (q.recalls.was_open h live) (rest was)) h live auto;
}

-- the count that is read from the answer
pub size_of : (r : Result ℕ Error) (row : Row) (m : ℕ) → IfOk r (λ n. (n < 2 ^ 63 - 1) × (column row 0 ≡ Int (pos n))) → row ≡ count m ∷ [] → IfOk r (λ n. n ≡ m)
size_of (Err e) row m h is = tt
size_of (Ok n) row m h is = let e : count m ≡ Int (pos n) = ap (λ (r : Row). column r 0) (sym is) ∙ h.1 in let low = h.0 in grind (arith, ints, nat_tests)

-- a transaction that was rolled back left the list
pub within_keeps : (old new : State) → Rests old → IsWithin old new → KeepsList old new
within_keeps old new rest w = record {
  recalls = record {
    clean = w.clean;
    was_open = w.was_open;
    told = λ t.
        let at_rest = rest (w.clean t.clean) in
        let was = w.was_open t.clean t.is_open in
        let now = same t.clean t.is_open t.autocommit in
        (record { clean = w.clean t.clean; is_open = was; autocommit = at_rest.autocommit; committed = at_rest.settled was; listed = subst ListsStore now t.listed }, ap kept_rows now);
  };
  stays = λ t h live auto. record { clean = h; is_open = live; autocommit = auto; committed = same h live auto ∙ t.committed ∙ sym (w.committed h live); listed = subst ListsStore (sym (same h live auto)) t.listed };
}
  where
    same : HasCleanDisk new → IsTrue new.is_open → new.in_transaction ≡ false → new.now ≡ old.now
    same h live auto = elim (w.undone h live) [
      | inl inside ↦ never_both new.in_transaction inside auto
      | inr undone ↦ undone ∙ w.committed h live ∙ sym ((rest (w.clean h)).settled (w.was_open h live))
    ]

front_of : (a b : Bool) → (a && b) ≡ true → a ≡ true
front_of true b h = refl
front_of false b h = h

back_of : (a b : Bool) → (a && b) ≡ true → b ≡ true
back_of true b h = h
back_of false b h = absurd (let e = h in cc)

-- a table that passes the test of attach is found
never_none : {X : Type 0} (p q : Table → Bool) (tables : List Table) → ((t : Table) → q t ≡ true → p t ≡ true) → list_any q tables ≡ true → find p tables ≡ None → X
never_none p q [] so any none = absurd (let e = any in cc)
never_none p q (t ∷ tables) so any none = elim (cases_Bool (p t)) [
  | inl found ↦ absurd (let e = rw found at none in cc)
  | inr past ↦ elim (cases_Bool (q t)) [
    | inl passes ↦ never_both (p t) (so t passes) past
    | inr fails ↦ never_none p q tables so (rw fails at any) (rw past at none)
  ]
]

there_by : (made : Table) (schema : Schema) (q : Table → Bool) → ((t : Table) → q t ≡ true → same_name t.name made.name ≡ true) → list_any q schema.tables ≡ true → IsAsMade made schema → HasTable made schema
there_by made schema q so any (inl none) = never_none (λ t. same_name t.name made.name) q schema.tables so any none
there_by made schema q so any (inr there) = there

-- of the stores whose list is told, one with both tables
pub store_both : (db : Database) → IsTrue (has_kept_tables db.schema) → ListsStore db → HasBoth db.schema
store_both db has l = record {
  first = there_by accepted db.schema is_kept_table (λ t h. front_of (same_name t.name accepted.name) (are_kept_columns t.columns) (front_of (same_name t.name accepted.name && are_kept_columns t.columns) (is_keyed t) h)) (front_of (has_first db.schema) (has_second db.schema) has) l.first;
  second = there_by second db.schema is_second_table (λ t h. front_of (same_name t.name second.name) (are_second_columns t.columns) (front_of (same_name t.name second.name && are_second_columns t.columns) (is_keyed t) h)) (back_of (has_first db.schema) (has_second db.schema) has) l.second;
  apart = l.apart;
}

lists_store : (db : Database) → ListsRows db → ListsStore db
lists_store db l = record { first = inr l.tables.first; second = inr l.tables.second; apart = l.tables.apart; rows = inr (l.first, l.numbered) }

-- what the rows were moved to has the list
pub moves_list : (n : ℕ) (old now : Database) → Moves n old now → HasBoth old.schema → n ≡ length (first_rows old) → second_rows old ≡ [] → ListsRows now × (kept_rows now ≡ kept_rows old)
moves_list n old now m has size empty =
    let both = subst HasBoth (sym m.schema) has in
    let it = m.holds both empty in (
      record { tables = both; first = it.1; numbered = it.0.numbered },
      ap (λ first. listed first (second_rows now)) it.1 ∙ it.0.rows ∙ ap (λ k. map kept_first (numbered_to k (first_rows old))) size ∙ sym (ap (listed (first_rows old)) empty ∙ append-nil _),
    )

-- all rows were moved, and the list stays
pub moved_keeps : (n : ℕ) (old new : State) → Rests old → IsTrue (has_kept_tables old.now.schema) → (HasCleanDisk new → HasCleanDisk old)
    → (HasCleanDisk new → HasBoth old.now.schema → n ≡ length (first_rows old.now)) → (HasCleanDisk new → HasBoth old.now.schema → 0 ≡ length (second_rows old.now))
    → (HasCleanDisk new → IsMoved n old new) → KeepsList old new
moved_keeps n old new rest tables clean size none moved = record {
  recalls = record {
    clean = clean;
    was_open = λ h live. (moved h).was_open;
    told = λ t.
        let h = t.clean in
        let at_rest = rest (clean h) in
        let m = moves h in
        let has : HasBoth old.now.schema = subst HasBoth m.schema (store_both new.now (subst (λ s. IsTrue (has_kept_tables s)) (sym m.schema) tables) t.listed) in
        let empty = no_rows (second_rows old.now) (none h has) in
        let each = subst (λ k. HaveEach k (first_rows old.now)) (size h has) (m.holds (subst HasBoth (sym m.schema) has) empty).0.each in (
          record { clean = clean h; is_open = (moved h).was_open; autocommit = at_rest.autocommit; committed = at_rest.settled (moved h).was_open; listed = record { first = inr has.first; second = inr has.second; apart = has.apart; rows = inl (each, empty) } },
          (moves_list n old.now new.now m has (size h has) empty).1,
        );
  };
  stays = λ t h live auto.
      let has = store_both old.now tables t.listed in
      let it = moves_list n old.now new.now (moves h) has (size h has) (no_rows (second_rows old.now) (none h has)) in
      record { clean = h; is_open = live; autocommit = auto; committed = (moved h).committed; listed = lists_store new.now it.0 };
}
  where
    moves : HasCleanDisk new → Moves n old.now new.now
    moves h = subst (λ d. Moves n d new.now) (sym ((rest (clean h)).settled (moved h).was_open)) (moved h).moved

-- from before the rows were counted, in between
pub emptied_keeps : {A : Type 0} (n : ℕ) (a c d : State) (r : Result A Error) → Rests a → IsTrue (has_kept_tables a.now.schema) → IsWithin a c → (HasCleanDisk d → HasCleanDisk c)
    → (HasCleanDisk c → HasBoth a.now.schema → n ≡ length (first_rows a.now)) → (HasCleanDisk c → HasBoth a.now.schema → 0 ≡ length (second_rows a.now))
    → (HasCleanDisk d → OnOk r (IsMoved n c d)) → OnErr r (IsWithin c d) → KeepsList a d
emptied_keeps n a c d (Ok x) rest tables within clean size none moved undone =
    moved_keeps n a d rest tables (λ h. within.clean (clean h)) (λ h. size (clean h)) (λ h. none (clean h)) (λ h. moved_from n a c d (clean h) within (moved h))
emptied_keeps n a c d (Err e) rest tables within clean size none moved undone = within_keeps a d rest (within_trans a c d within undone)

-- a list that is told, with the first table empty, is told of the second
pub ready_tells : (s : State) → IsReady s → TellsStore s → TellsRows s
ready_tells s r t =
    let both = store_both s.now r.tables t.listed in
    let empty = r.first both in
    let numbered : AreNumbered 1 (second_rows s.now) = elim t.listed.rows [ inl first ↦ subst (AreNumbered 1) (sym first.1) tt | inr rows ↦ rows.1 ] in
    record { clean = t.clean; is_open = t.is_open; autocommit = t.autocommit; committed = t.committed; listed = record { tables = both; first = empty; numbered = numbered } }

-- and the other way
pub tells_store : (s : State) → TellsRows s → TellsStore s
tells_store s t = record { clean = t.clean; is_open = t.is_open; autocommit = t.autocommit; committed = t.committed; listed = lists_store s.now t.listed }

-- ---- what a crash leaves

abbrev ends : Command → Bool
ends Commit = true
ends (Release name) = true
ends _ = false

-- in a transaction only a statement that ends it commits
none_inside : {X : Type 0} (s : State) (sql : List ℕ) (params : Row) (db : Trees) → s.in_transaction ≡ true → ((c : Compiled) → understood s.now.schema sql ≡ Ok c → ends c.command ≡ false) → CommitsBy sql params s db → X
unfolding CommitsBy
none_inside s sql params db inside spares h =
    let kind = spares h.0 h.1.is in
    elim h.2 [
      | inl over ↦ elim over.0 [ inl commit ↦ never_both (ends h.0.command) (ap ends commit) kind | inr release ↦ never_both (ends h.0.command) (ap ends release.2) kind ]
      | inr may ↦ never_both s.in_transaction inside may.0
    ]

survives_inside : (old new : State) (sql : List ℕ) (params : Row) → (HasCleanDisk old → old.in_transaction ≡ true) → ((c : Compiled) → understood old.now.schema sql ≡ Ok c → ends c.command ≡ false)
    → Survives old new (CommitsBy sql params old) → Survives old new CommitsNone
survives_inside old new sql params inside spares s =
    survives_weaker old new (CommitsBy sql params old) CommitsNone (λ c db h. none_inside old sql params db (inside (was_clean s c)) spares h) s

pub insert_commits : (old new : State) (id body : List ℕ) → (HasCleanDisk old → old.in_transaction ≡ true) → Survives old new (CommitsBy insert_text (given id body) old) → Survives old new CommitsNone
insert_commits old new id body inside s = survives_inside old new insert_text (given id body) inside (λ c is. ap ends (inserts old.now.schema c is).1.2) s

pub clear_commits : (old new : State) → (HasCleanDisk old → old.in_transaction ≡ true) → Survives old new (CommitsBy clear_text [] old) → Survives old new CommitsNone
clear_commits old new inside s = survives_inside old new clear_text [] inside (λ c is. ap ends (clears old.now.schema c is).1.2) s

pub roll_back_commits : (old new : State) → (HasCleanDisk old → old.in_transaction ≡ true) → Survives old new (CommitsBy roll_back_text [] old) → Survives old new CommitsNone
roll_back_commits old new inside s = survives_inside old new roll_back_text [] inside (λ c is. ap ends (rolls_back old.now.schema c is).1) s

begin_none : {X : Type 0} (s : State) (db : Trees) → CommitsBy begin_text [] s db → X
unfolding CommitsBy
begin_none s db h =
    let kind = begins s.now.schema h.0 h.1.is in
    elim h.2 [
      | inl over ↦ elim over.0 [ inl commit ↦ never_both (ends h.0.command) (ap ends commit) (ap ends kind.1) | inr release ↦ never_both (ends h.0.command) (ap ends release.2) (ap ends kind.1) ]
      | inr may ↦ absurd (let does = rw (kind.0, kind.1) at may.3 in cc)
    ]

pub begin_commits : (old new : State) → Survives old new (CommitsBy begin_text [] old) → Survives old new CommitsNone
begin_commits old new s = survives_weaker old new (CommitsBy begin_text [] old) CommitsNone (λ c db h. begin_none old db h) s

commits_now : (s : State) (db : Trees) → s.in_transaction ≡ true → CommitsBy commit_text [] s db → db ≡ s.now.trees
unfolding CommitsBy
commits_now s db inside h = elim h.2 [ inl over ↦ over.1 | inr may ↦ never_both s.in_transaction inside may.0 ]

pub commit_survives : (old new : State) → (HasCleanDisk old → old.in_transaction ≡ true) → Survives old new (CommitsBy commit_text [] old) → Survives old new (λ db. db ≡ old.now.trees)
commit_survives old new inside s = survives_weaker old new (CommitsBy commit_text [] old) (λ db. db ≡ old.now.trees) (λ c db h. commits_now old db (inside (was_clean s c)) h) s

-- calls in turn
pub none_first : (a b c : State) (P : Trees → Type 0) → Survives a b CommitsNone → Survives b c P → Survives a c P
none_first a b c P one two = survives_then a b c CommitsNone P P (λ h db none. absurd none) (λ h db made. made) one two

pub none_last : (a b c : State) (P : Trees → Type 0) → Survives a b P → Survives b c CommitsNone → Survives a c P
none_last a b c P one two = survives_then a b c P CommitsNone P (λ h db made. made) (λ h db none. absurd none) one two

pub none_is : (a b : State) (P : Trees → Type 0) → Survives a b CommitsNone → Survives a b P
none_is a b P s = survives_weaker a b CommitsNone P (λ h db none. absurd none) s

pub none_same : (s : State) → Survives s s CommitsNone
none_same s = record { clean = omega arith; shield = λ h. h; counts = omega arith; limit = refl; closes = λ c live. inl live; crash = λ c db h. inl h }

-- the move is committed with what was moved
pub move_commits : (n : ℕ) (a b c : State) → IsWithin a b → (HasCleanDisk b → IsDatabase b.now) → (HasCleanDisk b → IsCleared n b) → Survives a b CommitsNone → Survives b c (λ db. db ≡ b.now.trees) → Survives a c (CommitsMove n a.committed)
move_commits n a b c within sound cleared one two = survives_then a b c CommitsNone (λ db. db ≡ b.now.trees) (CommitsMove n a.committed) (λ h db none. absurd none)
    (λ h db made. let was = was_clean two h in let m = cleared was in (b.now, subst (λ d. Moves n d b.now) (within.committed was m.is_open) (cleared_moves n b (sound was) m), sym made)) one two

-- and so from before the transaction
pub move_survives : (n : ℕ) (a b c : State) → IsWithin a b → (HasCleanDisk b → IsMoving 0 b) → Survives a b CommitsNone → Survives b c (CommitsMove n b.committed) → Survives a c (CommitsMove n a.committed)
move_survives n a b c within begun one two = survives_then a b c CommitsNone (CommitsMove n b.committed) (CommitsMove n a.committed) (λ h db none. absurd none)
    (λ h db made. let was = was_clean two h in subst (λ d. CommitsMove n d db) (within.committed was (begun was).is_open) made) one two

-- and so from before the rows were counted, of a list that was told
pub list_survives : (n : ℕ) (a b c d : State) → IsTrue (has_kept_tables a.now.schema) → Survives a b CommitsNone → (HasCleanDisk b → IsUnchanged a b) → (HasCleanDisk b → HasBoth a.now.schema → n ≡ length (first_rows a.now))
    → Survives b c CommitsNone → (HasCleanDisk c → IsUnchanged b c) → (HasCleanDisk c → HasBoth b.now.schema → 0 ≡ length (second_rows b.now)) → Survives c d (CommitsMove n c.committed) → Survives a d (CommitsList a)
list_survives n a b c d tables one same_one size two same_two none moves =
    survives_then a c d CommitsNone (CommitsMove n c.committed) (CommitsList a) (λ h db nothing. absurd nothing) (λ h db made t.
    let at_c = was_clean moves h in
    let at_b = was_clean two at_c in
    let first = (same_one at_b).0 in
    let both = store_both a.now tables t.listed in
    let base : c.committed ≡ a.now = (same_two at_c).0.committed_is ∙ first.committed_is ∙ sym t.committed in
    let m : Moves n a.now made.0 = subst (λ d. Moves n d made.0) base made.1 in
    let few : 0 ≡ length (second_rows a.now) = none at_c (subst (λ (d : Database). HasBoth d.schema) (sym first.now_is) both) ∙ ap (λ (d : Database). length (second_rows d)) first.now_is in
    let it = moves_list n a.now made.0 m both (size at_b both) (no_rows (second_rows a.now) few) in
    record { found = made.0; sound = m.sound; trees = made.2; listed = lists_store made.0 it.0; rows = it.1 }) (none_first a b c CommitsNone one two) moves

-- after one that left the list told
pub list_then : (a b c : State) (P : Trees → Type 0) → KeepsList a b → (HasCleanDisk b → TellsStore a → TellsStore b) → (HasCleanDisk b → TellsStore a → (db : Trees) → P db → CommitsList b db)
    → Survives a b (CommitsList a) → Survives b c P → Survives a c (CommitsList a)
list_then a b c P keeps told lists one two = survives_then a b c (CommitsList a) P (CommitsList a) (λ h db made. made)
    (λ h db made t.
    let was = was_clean two h in
    let now = told was t in
    subst (λ rows. HasList rows db) (keeps.recalls.told now).1 (lists was t db made now)) one two
