-- The tables are made where the store has none.
use Rattle.std.proofs.Common.{◌≡◌, ◌≢◌, ◌⊎◌, inl, inr, ℕ, ◌+◌, OnOk, List, [], ◌∷◌, ◌++◌, map, length, find, fold, max, Bool, true, false, cond, if◌then◌else◌, Option, Some, None, Result, Ok, Err, MatchBool, refl, sym, ap, subst, ◌∙◌, arith}
use Rattle.std.specs.List.{AllByRecursion}
use Rattle.std.proofs.lemmas.Bool.{cases_Bool}
use Rattle.sqlite.specs.Order.{Row}
use Rattle.sqlite.specs.Tree.{Trees}
use Rattle.sqlite_trees.specs.Tree.{IsAscending}
use Rattle.sqlite.specs.declared.error.Error.{Error}
use Rattle.sqlite.specs.declared.run.Mode.{Mode}
use Rattle.sqlite.specs.Table.{Table}
use Rattle.sqlite.specs.Schema.{Schema}
use Rattle.sqlite.specs.Command.TheVariants.{CreateTable, Nothing}
use Rattle.sqlite.specs.Compile.{table_defined_by}
use Rattle.sqlite.specs.Does.{Tally, Does, MakesTable, lacks_sequence, sequence_text}
use Rattle.sqlite.specs.Rows.{Gives}
use Rattle.sqlite.specs.Effect.{Database}
use Rattle.sqlite_catalog.specs.Calls.{CreatesTable}
use Rattle.sqlite_catalog.proofs.ListFacts.{ascending_push, most_above, most_from}
use Rattle.sqlite_resolve.specs.Lowering.{Checked}
use Rattle.sqlite_resolve.specs.declared.compiled.Compiled.{Compiled}
use Rattle.sqlite_rules.specs.Lists.{Has}
use Rattle.sqlite_rules.proofs.ListLemmas.{all_has}
use Rattle.sqlite_schema.specs.declared.schema.Index.{Index}
use Rattle.sqlite_schema.specs.Names.{same_name}
use Rattle.sqlite_tied.specs.Compute.{everything}
use Rattle.sqlite.specs.State.{State, HasCleanDisk, mode_of, Writes, IsUnchanged, RunsAlone, Executes, CommitsBy, Survives, text_of}
use Rattle.sqlite.specs.Clock.{timed}
use Rattle.sqlite.proofs.StateLemmas.{survives_weaker}
use Rattle.sqlite.specs.Change.{next_tree, past_views}
use Rattle.ghg_keeper.specs.declared.row.KeptRow.{KeptRow}
use Rattle.ghg_keeper.specs.Accepted.{AreApart, IsAsMade, accepted, second, table_of}
use Rattle.ghg_keeper.specs.Listed.{AreInOne, ListsStore, TellsStore, first_rows, kept_first, kept_of, kept_rows, numbered_to, rows_in, rows_of, second_rows}
use Rattle.ghg_keeper.specs.Moving.{Leaves, Rests, Recalls, StaysListed, KeepsList, HasList, CommitsList}
use Rattle.ghg_keeper.specs.Texts.{create_text, second_text}
use Rattle.ghg_keeper.proofs.Meanings.{create_is, second_is, went, same_value}
use Rattle.ghg_keeper.proofs.Tables.{apart_names, found_in}
use Rattle.ghg_keeper.proofs.Texts.{IsCreate, makes_table}
use Rattle.ghg_keeper.proofs.Effects.{ran_as, after_refusal, stays}
use Rattle.ghg_keeper.proofs.Safe.{told_after}

-- ---- one table more

module _ {X : Type 0} (p : X → Bool) where
  found_before : (xs ys : List X) (x : X) → find p xs ≡ Some x → find p (xs ++ ys) ≡ Some x
  found_before [] ys x h = absurd (cc)
  found_before (z ∷ xs) ys x h = elim (cases_Bool (p z)) [
    | inl here ↦ rw here (rw here at h)
    | inr past ↦ rw past (found_before xs ys x (rw past at h))
  ]

  found_last : (xs : List X) (y : X) → find p xs ≡ None → find p (xs ++ y ∷ []) ≡ cond (p y) (Some y) None
  found_last [] y h = refl
  found_last (z ∷ xs) y h = elim (cases_Bool (p z)) [
    | inl here ↦ absurd (let e = rw here at h in cc)
    | inr past ↦ rw past (found_last xs y (rw past at h))
  ]

abbrev pub listed : List Row → List Row → List KeptRow
listed first rows = map kept_first (numbered_to (length first) first) ++ map kept_of rows

-- A table that is made is empty, and each other keeps its rows.
abbrev Grows : List ℕ → Database → Database → Type 0
Grows text old after = CreatesTable old.schema text old.trees after.schema after.trees

abbrev named : List ℕ → Table → Bool
named name t = same_name t.name name

module _ (text : List ℕ) (old after : Database) (g : Grows text old after) where
  abbrev made_table : Table
  made_table = record g.table { tree = next_tree old.schema }

  tables_are : after.schema.tables ≡ old.schema.tables ++ made_table ∷ []
  tables_are = ap (λ (s : Schema). s.tables) g.is

  found_still : (name : List ℕ) (t : Table) → table_of name old.schema ≡ Some t → table_of name after.schema ≡ Some t
  found_still name t h = ap (find (named name)) tables_are ∙ found_before (named name) old.schema.tables _ t h

  found_new : (name : List ℕ) → table_of name old.schema ≡ None → table_of name after.schema ≡ cond (same_name g.table.name name) (Some made_table) None
  found_new name h = ap (find (named name)) tables_are ∙ found_last (named name) old.schema.tables made_table h

  rows_new : (b : Bool) → rows_in after.trees (cond b (Some made_table) None) ≡ []
  rows_new true = g.empty
  rows_new false = refl

  rows_kept : (name : List ℕ) → rows_of name after ≡ rows_of name old
  rows_kept name = by (table_of name old.schema) refl
    where
      by : (o : Option Table) → table_of name old.schema ≡ o → rows_of name after ≡ rows_of name old
      by None none = ap (rows_in after.trees) (found_new name none) ∙ rows_new (same_name g.table.name name) ∙ sym (ap (rows_in old.trees) none)
      by (Some t) some =
          ap (rows_in after.trees) (found_still name t some)
          ∙ all_has (λ (t : Table). after.trees t.tree ≡ old.trees t.tree) old.schema.tables t g.others (found_in (named name) old.schema.tables t some).0 ∙ sym (ap (rows_in old.trees) some)

  as_made_before : (made : Table) → IsAsMade made after.schema → IsAsMade made old.schema
  as_made_before made is = by (table_of made.name old.schema) refl is
    where
      by : (o : Option Table) → table_of made.name old.schema ≡ o → IsAsMade made after.schema → IsAsMade made old.schema
      by None none is = inl none
      by (Some t) some (inl none) = absurd (let e = sym (found_still made.name t some) ∙ none in cc)
      by (Some t) some (inr there) = inr (record { tree = there.tree; found = some ∙ sym (found_still made.name t some) ∙ there.found })

  as_made_after : (made : Table) → (same_name g.table.name made.name ≡ false) ⊎ (record g.table { tree = next_tree old.schema } ≡ record made { tree = next_tree old.schema }) → IsAsMade made old.schema → IsAsMade made after.schema
  as_made_after made suits (inr there) = inr (record { tree = there.tree; found = found_still made.name _ there.found })
  as_made_after made (inl other) (inl none) = inl (found_new made.name none ∙ ap (λ b. cond b (Some made_table) None) other)
  as_made_after made (inr same) (inl none) = by (same_name g.table.name made.name) refl
    where
      by : (b : Bool) → same_name g.table.name made.name ≡ b → IsAsMade made after.schema
      by true is = inr (record { tree = next_tree old.schema; found = found_new made.name none ∙ ap (λ b. cond b (Some made_table) None) is ∙ ap (λ t. Some t) same })
      by false is = inl (found_new made.name none ∙ ap (λ b. cond b (Some made_table) None) is)

  new_tree : (t : Table) → Has old.schema.tables t → t.tree ≢ next_tree old.schema
  new_tree t at same =
      let views = past_views old.schema in
      let tables = most_above (λ (t : Table). t.tree) views old.schema.tables t at in
      let indexes = most_from (λ (i : Index). i.tree) (fold (λ n (t : Table). max n (t.tree + 1)) views old.schema.tables) old.schema.indexes in
      omega (arith, tables, indexes, same)

  apart_after : AreApart old.schema → AreApart after.schema
  apart_after apart = subst (IsAscending (λ s t. s.tree ≢ t.tree)) (sym tables_are) (ascending_push (λ s t. s.tree ≢ t.tree) old.schema.tables made_table apart new_tree)

  apart_before : AreApart after.schema → AreApart old.schema
  apart_before apart = front old.schema.tables (subst (IsAscending (λ s t. s.tree ≢ t.tree)) tables_are apart)
    where
      all_front : (tree : ℕ) (xs : List Table) → AllByRecursion (λ t. tree ≢ t.tree) (xs ++ made_table ∷ []) → AllByRecursion (λ t. tree ≢ t.tree) xs
      all_front tree [] h = tt
      all_front tree (x ∷ xs) h = (h.0, all_front tree xs h.1)

      front : (xs : List Table) → IsAscending (λ s t. s.tree ≢ t.tree) (xs ++ made_table ∷ []) → IsAscending (λ s t. s.tree ≢ t.tree) xs
      front [] h = tt
      front (x ∷ xs) h = (all_front x.tree xs h.0, front xs h.1)

  grown_before : ListsStore after → ListsStore old
  grown_before l = record {
    first = as_made_before accepted l.first;
    second = as_made_before second l.second;
    apart = apart_before l.apart;
    rows = subst (λ first. AreInOne first (second_rows old)) (rows_kept accepted.name) (subst (AreInOne (first_rows after)) (rows_kept second.name) l.rows);
  }

  grown_kept : kept_rows after ≡ kept_rows old
  grown_kept = ap (λ first. listed first (second_rows after)) (rows_kept accepted.name) ∙ ap (listed (first_rows old)) (rows_kept second.name)

-- a text that makes no other table of the two names
abbrev Suits : Table → Table → Type 0
Suits table made = (same_name table.name made.name ≡ false) ⊎ ((tree : ℕ) → record table { tree = tree } ≡ record made { tree = tree })

pub record IsOurs (text : List ℕ) : Type 0 where
  first : (table : Table) → table_defined_by text ≡ Ok table → Suits table accepted
  second_one : (table : Table) → table_defined_by text ≡ Ok table → Suits table second

same_table : {a b : Table} → ◌≡◌ {A = Checked Table} (Ok a) (Ok b) → a ≡ b
same_table e = cc

pub create_ours : IsOurs create_text
create_ours = record {
  first = λ table is. let same : table ≡ accepted = same_table (sym is ∙ create_is) in inr (λ tree. ap (λ (t : Table). let u : Table = record t { tree = tree } in u) same);
  second_one = λ table is. let same : table ≡ accepted = same_table (sym is ∙ create_is) in inl (ap (λ (t : Table). same_name t.name second.name) same ∙ apart_names.0);
}

pub second_ours : IsOurs second_text
second_ours = record {
  first = λ table is. let same : table ≡ second = same_table (sym is ∙ second_is) in inl (ap (λ (t : Table). same_name t.name accepted.name) same ∙ apart_names.1);
  second_one = λ table is. let same : table ≡ second = same_table (sym is ∙ second_is) in inr (λ tree. ap (λ (t : Table). let u : Table = record t { tree = tree } in u) same);
}

abbrev is_named : List ℕ → Checked Table → Bool
is_named name (Ok t) = same_name t.name name
is_named name (Err e) = false

sequence_named : (is_named accepted.name (table_defined_by sequence_text) ≡ false) × (is_named second.name (table_defined_by sequence_text) ≡ false)
unfolding everything
sequence_named = (refl, refl)

sequence_ours : IsOurs sequence_text
sequence_ours = record {
  first = λ table is. inl (sym (ap (is_named accepted.name) is) ∙ sequence_named.0);
  second_one = λ table is. inl (sym (ap (is_named second.name) is) ∙ sequence_named.1);
}

suits_at : (table made : Table) (tree : ℕ) → Suits table made → (same_name table.name made.name ≡ false) ⊎ (record table { tree = tree } ≡ record made { tree = tree })
suits_at table made tree (inl other) = inl other
suits_at table made tree (inr same) = inr (same tree)

grown_after : (text : List ℕ) (old after : Database) (g : Grows text old after) → IsOurs text → ListsStore old → ListsStore after
grown_after text old after g ours l = record {
  first = as_made_after text old after g accepted (suits_at g.table accepted _ (ours.first g.table g.defined)) l.first;
  second = as_made_after text old after g second (suits_at g.table second _ (ours.second_one g.table g.defined)) l.second;
  apart = apart_after text old after g l.apart;
  rows = subst (λ first. AreInOne first (second_rows after)) (sym (rows_kept text old after g accepted.name)) (subst (AreInOne (first_rows old)) (sym (rows_kept text old after g second.name)) l.rows);
}

-- the table that is made, and then the one that AUTOINCREMENT would count in beside it
with_counter : (mid after : Database) (lacks : Bool) → MatchBool lacks (MakesTable sequence_text mid (Ok after)) (Gives mid (Ok after)) → (after ≡ mid) ⊎ Grows sequence_text mid after
with_counter mid after true h = inr h
with_counter mid after false h = inl (same_value h)

record Makes (text : List ℕ) (old after : Database) : Type 0 where
  mid : Database
  grows : Grows text old mid
  last : (after ≡ mid) ⊎ Grows sequence_text mid after

makes : (limit : Option ℕ) (mode : Mode) (params : Row) (db after : Database) (text : List ℕ) (tally : Tally) → Does limit mode params db text None CreateTable (Ok (tally, after)) → Makes text db after
makes limit mode params db after text tally h =
    let all = went h in
    let first = went all.1 in
    let same : after ≡ all.0 = ap (λ (p : Tally × Database). p.1) (same_value all.2) in
    record { mid = first.0; grows = first.1; last = subst (λ (d : Database). (d ≡ first.0) ⊎ Grows sequence_text first.0 d) (sym same) (with_counter first.0 all.0 (lacks_sequence first.0.schema) first.2) }

-- the store before
made_from : (text : List ℕ) (old after : Database) → Makes text old after → ListsStore after → ListsStore old
made_from text old after m l = grown_before text old m.mid m.grows (elim m.last [ inl same ↦ subst ListsStore same l | inr more ↦ grown_before sequence_text m.mid after more l ])

made_kept : (text : List ℕ) (old after : Database) → Makes text old after → kept_rows after ≡ kept_rows old
made_kept text old after m = elim m.last [ inl same ↦ ap kept_rows same | inr more ↦ grown_kept sequence_text m.mid after more ] ∙ grown_kept text old m.mid m.grows

-- and after
made_to : (text : List ℕ) (old after : Database) → IsOurs text → Makes text old after → ListsStore old → ListsStore after
made_to text old after ours m l =
    let mid = grown_after text old m.mid m.grows ours l in
    elim m.last [ inl same ↦ subst ListsStore (sym same) mid | inr more ↦ grown_after sequence_text m.mid after more sequence_ours mid ]

-- ---- the statements

-- a statement that did nothing, or was rolled back
pub left_recalls : (old new : State) → (HasCleanDisk new → HasCleanDisk old) → Rests old → (HasCleanDisk new → Leaves old new) → Recalls old new
left_recalls old new clean rest left = record {
  clean = clean;
  was_open = λ c live. elim (left c) [ inl same ↦ same.0.was_open | inr back ↦ back.was_open live ];
  told = λ t. let it = stays ListsStore old new (rest (clean t.clean)) (clean t.clean) (left t.clean) t in (it.0, ap kept_rows it.1);
}

pub left_stays : (old new : State) → (HasCleanDisk new → Leaves old new) → StaysListed old new
left_stays old new left t clean live auto = told_after ListsStore old new t clean (left clean) live

pub left_keeps : (old new : State) → (HasCleanDisk new → HasCleanDisk old) → Rests old → (HasCleanDisk new → Leaves old new) → KeepsList old new
left_keeps old new clean rest left = record { recalls = left_recalls old new clean rest left; stays = left_stays old new left }

create_ran : (old new : State) (sql : List ℕ) (c : Compiled) (params : Row) (count : ℕ) → c.returning ≡ None → c.command ≡ CreateTable → RunsAlone false old new sql c params (Ok count)
    → Writes old new None CreateTable (text_of sql c) params count
create_ran old new sql c params count none is h = rw (none, is) at h

nothing_ran : (old new : State) (sql : List ℕ) (c : Compiled) (params : Row) (count : ℕ) → c.returning ≡ None → c.command ≡ Nothing → RunsAlone false old new sql c params (Ok count) → IsUnchanged old new
nothing_ran old new sql c params count none is h = (rw (none, is) at h).0

-- the command that a text that makes a table runs
ran_one : (old new : State) (text : List ℕ) (count : ℕ) → IsCreate text → Executes text [] old new (Ok count) → ((params : Row) × Writes old new None CreateTable text params count) ⊎ IsUnchanged old new
ran_one old new text count parses h =
    let r = ran_as old new text [] count h in
    let kind = makes_table old.now.schema r.c text parses r.statement.is in
    let given = timed [] r.c.formats r.statement.now in
    elim kind.1 [
      | inl makes_it ↦ inl (given, subst (λ t. Writes old new None CreateTable t given count) kind.2 (create_ran old new text r.c given count kind.0 makes_it r.ran))
      | inr there ↦ inr (nothing_ran old new text r.c given count kind.0 there r.ran)
    ]

pub recalled : (old new : State) (text : List ℕ) (r : Result ℕ Error) → IsCreate text → Rests old → (HasCleanDisk new → HasCleanDisk old) → (HasCleanDisk new → Executes text [] old new r) → Recalls old new
recalled old new text (Err e) parses rest clean ran = left_recalls old new clean rest (λ c. after_refusal old new text [] e (ran c))
recalled old new text (Ok count) parses rest clean ran = record {
  clean = clean;
  was_open = λ c live. elim (ran_one old new text count parses (ran c)) [ inl w ↦ w.1.shown.was_open | inr same ↦ same.0.was_open ];
  told = λ t. elim (ran_one old new text count parses (ran t.clean)) [
    | inl w ↦
        let at_rest = rest (clean t.clean) in
        let was = w.1.shown.was_open in
        let m = makes old.step_limit (mode_of old) w.0 old.now new.now text w.1.tally w.1.changed in
        (record { clean = clean t.clean; is_open = was; autocommit = at_rest.autocommit; committed = at_rest.settled was; listed = made_from text old.now new.now m t.listed }, made_kept text old.now new.now m)
    | inr same ↦ (left_recalls old new clean rest (λ c. inl same)).told t
  ];
}

-- a statement that did nothing, or was rolled back, ends between two transactions where it began there
pub left_rests : (old new : State) → Rests old → (HasCleanDisk new → HasCleanDisk old) → (HasCleanDisk new → Leaves old new) → Rests new
left_rests old new rest clean left = λ c. elim (left c) [
  | inl same ↦ record { autocommit = same.0.mode ∙ (rest (clean c)).autocommit; settled = λ live. same.0.now_is ∙ (rest (clean c)).settled same.0.was_open ∙ sym same.0.committed_is }
  | inr back ↦ record { autocommit = back.autocommit; settled = λ live. (back.undone live).0 ∙ sym (back.undone live).1 }
]

pub ran_rests : (old new : State) (text : List ℕ) (r : Result ℕ Error) → IsCreate text → Rests old → (HasCleanDisk new → HasCleanDisk old) → (HasCleanDisk new → Executes text [] old new r) → Rests new
ran_rests old new text (Err e) parses rest clean ran = left_rests old new rest clean (λ c. after_refusal old new text [] e (ran c))
ran_rests old new text (Ok count) parses rest clean ran = λ c.
    let at_rest = rest (clean c) in
    elim (ran_one old new text count parses (ran c)) [
      | inl w ↦ record { autocommit = w.1.shown.mode ∙ at_rest.autocommit; settled = λ live. sym (w.1.shown.committed_is ∙ ap (λ b. if b then old.committed else new.now) at_rest.autocommit) }
      | inr same ↦ record { autocommit = same.0.mode ∙ at_rest.autocommit; settled = λ live. same.0.now_is ∙ at_rest.settled same.0.was_open ∙ sym same.0.committed_is }
    ]

-- ---- a list that was told stays told

one_told : (old new : State) (text : List ℕ) (count : ℕ) → IsCreate text → IsOurs text → TellsStore old → HasCleanDisk new → Executes text [] old new (Ok count) → TellsStore new
one_told old new text count parses ours t clean h = elim (ran_one old new text count parses h) [
  | inl w ↦ record {
    clean = clean;
    is_open = w.1.shown.is_open;
    autocommit = w.1.shown.mode ∙ t.autocommit;
    committed = sym (w.1.shown.committed_is ∙ ap (λ b. if b then old.committed else new.now) t.autocommit);
    listed = made_to text old.now new.now ours (makes old.step_limit (mode_of old) w.0 old.now new.now text w.1.tally w.1.changed) t.listed;
  }
  | inr same ↦ told_after ListsStore old new t clean (inl same) same.0.is_open
]

made_stays : (old new : State) (text : List ℕ) (r : Result ℕ Error) → IsCreate text → IsOurs text → (HasCleanDisk new → Executes text [] old new r) → StaysListed old new
made_stays old new text (Err e) parses ours ran = left_stays old new (λ c. after_refusal old new text [] e (ran c))
made_stays old new text (Ok count) parses ours ran = λ t clean live auto. one_told old new text count parses ours t clean (ran clean)

pub made_keeps : (old new : State) (text : List ℕ) (r : Result ℕ Error) → IsCreate text → IsOurs text → Rests old → (HasCleanDisk new → HasCleanDisk old) → (HasCleanDisk new → Executes text [] old new r) → KeepsList old new
made_keeps old new text r parses ours rest clean ran = record { recalls = recalled old new text r parses rest clean ran; stays = made_stays old new text r parses ours ran }

pub made_told : (old new : State) (text : List ℕ) (r : Result ℕ Error) → IsCreate text → IsOurs text → (HasCleanDisk new → Executes text [] old new r) → HasCleanDisk new → TellsStore old → OnOk r (TellsStore new)
made_told old new text (Err e) parses ours ran clean t = tt
made_told old new text (Ok count) parses ours ran clean t = one_told old new text count parses ours t clean (ran clean)

-- ---- what a crash leaves

-- a table that is made, and what it is committed as
made_commits : (s : State) (text : List ℕ) (db : Trees) → IsCreate text → IsOurs text → CommitsBy text [] s db → ListsStore s.now → HasList (kept_rows s.now) db
unfolding CommitsBy
made_commits s text db parses ours h listed =
    let c = h.0 in
    let kind = makes_table s.now.schema c text parses h.1.is in
    let given = timed [] c.formats h.1.now in
    elim h.2 [
      | inl ends ↦ absurd (elim kind.1 [
        | inl makes_it ↦ elim ends.0 [ inl commit ↦ (let e = sym commit ∙ makes_it in cc) | inr release ↦ (let e = sym release.2 ∙ makes_it in cc) ]
        | inr none ↦ elim ends.0 [ inl commit ↦ (let e = sym commit ∙ none in cc) | inr release ↦ (let e = sym release.2 ∙ none in cc) ]
      ])
      | inr may ↦ elim kind.1 [
        | inr none ↦ absurd (let does = rw (kind.0, none) at may.3 in cc)
        | inl makes_it ↦
            let does = rw (kind.0, makes_it) at may.3 in
            let m = makes s.step_limit (mode_of s) given s.now may.2 text may.1 (subst (λ x. Does s.step_limit (mode_of s) given s.now x None CreateTable (Ok (may.1, may.2))) kind.2 does) in
            record { found = may.2; sound = may.4; trees = sym may.5; listed = made_to text s.now may.2 ours m listed; rows = made_kept text s.now may.2 m }
      ]
    ]

pub made_survives : (old new : State) (text : List ℕ) → IsCreate text → IsOurs text → Survives old new (CommitsBy text [] old) → Survives old new (CommitsList old)
made_survives old new text parses ours s = survives_weaker old new (CommitsBy text [] old) (CommitsList old) (λ c db h t. made_commits old text db parses ours h t.listed) s
