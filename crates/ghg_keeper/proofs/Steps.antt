-- What a write leaves alone.
use Rattle.std.proofs.Common.{◌≡◌, ◌≢◌, inl, inr, ℕ, suc, zero, ◌+◌, ◌<◌, List, [], ◌∷◌, ◌++◌, Bool, true, false, ◌&&◌, ◌==◌, Option, Some, None, Ok, if◌then◌else◌, nat_lt, flat_map, ℤ, refl, sym, ap, subst, ◌∙◌, arith}
use Rattle.std.specs.List.{AllByRecursion, AllZip, cons_option, filter_map, list_any}
use Rattle.std.proofs.lemmas.Bool.{cases_Bool}
use Rattle.std.proofs.lemmas.Bool.Decides.{nat_tests}
use Rattle.sqlite.specs.Order.{Row}
use Rattle.sqlite_trees.specs.Tree.{Trees, IsAscending}
use Rattle.sqlite_trees.specs.Objects.{catalog_tree}
use Rattle.sqlite_trees.proofs.ListLemmas.{all-append}
use Rattle.sqlite_schema.specs.declared.schema.Keys.{Keys}
use Rattle.sqlite_schema.specs.declared.schema.Reference.{Reference}
use Rattle.sqlite_schema.specs.Rules.{ParentKey}
use Rattle.sqlite.specs.Table.{Table}
use Rattle.sqlite.specs.Schema.{Schema}
use Rattle.sqlite_rules.specs.declared.action.Deed.{Deed}
use Rattle.sqlite_rules.specs.Lists.{Has}
use Rattle.sqlite_rules.proofs.ListLemmas.{all_has}
use Rattle.sqlite_rules.specs.Edit.{Edit, Applies, IsNoIndex, taken_by}
use Rattle.sqlite_rules.specs.Action.{Work, works, work_for, work_by, pairs, loses, refuses, max_depth, action_edit, Leads, ActsOn, End, Goes, Writes}
use Rattle.sqlite.specs.Effect.{Database, IsDatabase}
use Rattle.sqlite_catalog.specs.Listing.{IsTableRow, IsIndexRow}
use Rattle.sqlite_schema.specs.Names.{same_name}
use Rattle.ghg_keeper.specs.Accepted.{AreApart, table_of}
use Rattle.ghg_keeper.specs.Listed.{rows_in}
use Rattle.ghg_keeper.proofs.Tables.{found_in}

-- ---- trees

-- two tables of a schema that are not one have two trees
pub apart_trees : (xs : List Table) (x y : Table) → IsAscending (λ s t. s.tree ≢ t.tree) xs → Has xs x → Has xs y → x ≢ y → x.tree ≢ y.tree
apart_trees [] x y apart at_x at_y other same = at_x
apart_trees (z ∷ xs) x y apart (inl ex) (inl ey) other same = other (ex ∙ sym ey)
apart_trees (z ∷ xs) x y apart (inl ex) (inr hy) other same = all_has (λ t. z.tree ≢ t.tree) xs y apart.0 hy (ap (λ (t : Table). t.tree) (sym ex) ∙ same)
apart_trees (z ∷ xs) x y apart (inr hx) (inl ey) other same = all_has (λ t. z.tree ≢ t.tree) xs x apart.0 hx (ap (λ (t : Table). t.tree) (sym ey) ∙ sym same)
apart_trees (z ∷ xs) x y apart (inr hx) (inr hy) other same = apart_trees xs x y apart.1 hx hy other same

-- Where the trees but that of one table stay, so do the rows of each name that is not its own.
pub rows_others : (schema : Schema) (kept : Table) (db next : Trees) → AreApart schema → Has schema.tables kept → AllByRecursion (λ t. t.tree ≢ kept.tree → next t.tree ≡ db t.tree) schema.tables
    → (name : List ℕ) → same_name kept.name name ≡ false → (o : Option Table) → table_of name schema ≡ o → rows_in next o ≡ rows_in db o
rows_others schema kept db next apart at stay name other None is = refl
rows_others schema kept db next apart at stay name other (Some t) is =
    let it = found_in (λ (t : Table). same_name t.name name) schema.tables t is in
    all_has (λ (t : Table). t.tree ≢ kept.tree → next t.tree ≡ db t.tree) schema.tables t stay it.0
    (apart_trees schema.tables t kept apart it.0 at (λ same. absurd (let e = sym it.1 ∙ ap (λ (t : Table). same_name t.name name) same ∙ other in cc)))

-- no table in this tree refers to another
abbrev pub IsFree : ℕ → List Table → Type 0
IsFree tree = AllByRecursion (λ t. t.tree ≡ tree → t.references ≡ [])

others_free : (tree : ℕ) (xs : List Table) → AllByRecursion (λ t. tree ≢ t.tree) xs → IsFree tree xs
others_free tree [] h = tt
others_free tree (x ∷ xs) h = (λ same. absurd (h.0 (sym same)), others_free tree xs h.1)

pub is_free : (xs : List Table) (x : Table) → IsAscending (λ s t. s.tree ≢ t.tree) xs → Has xs x → x.references ≡ [] → IsFree x.tree xs
is_free [] x apart at none = tt
is_free (z ∷ xs) x apart (inl same) none =
    (λ _. ap (λ (t : Table). t.references) (sym same) ∙ none, subst (λ (t : Table). IsFree t.tree xs) (sym same) (others_free z.tree xs apart.0))
is_free (z ∷ xs) x apart (inr at) none = (λ same. absurd (all_has (λ t. z.tree ≢ t.tree) xs x apart.0 at same), is_free xs x apart.1 at none)

low_not : (tree : ℕ) → tree < 65536 → tree ≢ catalog_tree
low_not tree low same = omega (arith, low, same)

all_zipped : {A B : Type 0} (R : A → B → Type 0) (P : B → Type 0) → ((a : A) (b : B) → R a b → P b) → (xs : List A) (ys : List B) → AllZip R xs ys → AllByRecursion P ys
all_zipped R P so [] [] h = tt
all_zipped R P so [] (y ∷ ys) h = absurd h
all_zipped R P so (x ∷ xs) [] h = absurd h
all_zipped R P so (x ∷ xs) (y ∷ ys) h = (so x y h.0, all_zipped R P so xs ys h.1)

-- the list of tables is in none of their trees
pub lists_apart : (db : Database) (t : Table) → IsDatabase db → Has db.schema.tables t → (t.tree ≢ catalog_tree) × IsNoIndex db.schema catalog_tree
lists_apart db t sound at =
    let listed = sound.lists.listed in (
      all_has (λ t. t.tree ≢ catalog_tree) db.schema.tables t (all_zipped IsTableRow (λ t. t.tree ≢ catalog_tree) (λ row t is. low_not t.tree is.described.low) _ db.schema.tables listed.tables) at,
      all_zipped (IsIndexRow db.schema.tables) (λ i. i.tree ≢ catalog_tree) (λ row i is. low_not i.tree is.described.low) _ db.schema.indexes listed.indexes,
    )

-- ---- the actions of foreign keys

none_lost : (b : Bool) → (b && false) ≡ false
none_lost true = refl
none_lost false = refl

none_by : (depth tree : ℕ) (child : Table) (ref : Reference) (deed : Option Deed) (key : Option ParentKey) → work_by depth tree [] child ref deed key ≡ None
none_by depth tree child ref None key = refl
none_by depth tree child ref (Some deed) None = refl
none_by depth tree child ref (Some deed) (Some key) = rw (none_lost (key.0 == tree)) refl

none_of : (schema : Schema) (keys : Keys) (depth tree : ℕ) (news : List Row) (child : Table) (refs : List Reference) → filter_map (work_for schema keys depth tree [] news child) refs ≡ []
none_of schema keys depth tree news child [] = refl
none_of schema keys depth tree news child (ref ∷ refs) = rw (none_by depth tree child ref _ _) (none_of schema keys depth tree news child refs)

none_in : (schema : Schema) (keys : Keys) (depth tree : ℕ) (news : List Row) (tables : List Table) → flat_map (λ (child : Table). filter_map (work_for schema keys depth tree [] news child) child.references) tables ≡ []
none_in schema keys depth tree news [] = refl
none_in schema keys depth tree news (t ∷ tables) = rw (none_of schema keys depth tree news t t.references) (none_in schema keys depth tree news tables)

-- where no row is taken out, none acts
pub works_none : (schema : Schema) (keys : Keys) (depth tree : ℕ) (news : List Row) → works schema keys depth tree [] news ≡ []
works_none schema keys depth tree news = none_in schema keys depth tree news schema.tables

abbrev Spares : ℕ → List Work → Type 0
Spares tree = AllByRecursion (λ w. w.child.tree ≢ tree)

module _ (schema : Schema) (keys : Keys) (kept : Table) (at : Has schema.tables kept) (free : IsFree kept.tree schema.tables) where
  spare_if : (b : Bool) (w : Work) (rest : List Work) → w.child.tree ≢ kept.tree → Spares kept.tree rest → Spares kept.tree (cons_option (if b then Some w else None) rest)
  spare_if true w rest other h = (other, h)
  spare_if false w rest other h = h

  spare_by : (depth tree : ℕ) (moves : List (Row × Row)) (child : Table) (ref : Reference) (deed : Option Deed) (key : Option ParentKey) (rest : List Work) → child.tree ≢ kept.tree → Spares kept.tree rest
      → Spares kept.tree (cons_option (work_by depth tree moves child ref deed key) rest)
  spare_by depth tree moves child ref None key rest other h = h
  spare_by depth tree moves child ref (Some deed) None rest other h = h
  spare_by depth tree moves child ref (Some deed) (Some key) rest other h = spare_if ((key.0 == tree) && list_any (loses key.2 key.1) moves) _ rest other h

  spare_of : (depth tree : ℕ) (olds news : List Row) (child : Table) (refs : List Reference) → child.tree ≢ kept.tree → Spares kept.tree (filter_map (work_for schema keys depth tree olds news child) refs)
  spare_of depth tree olds news child [] other = tt
  spare_of depth tree olds news child (ref ∷ refs) other = spare_by depth tree (pairs olds news) child ref _ _ _ other (spare_of depth tree olds news child refs other)

  spare_child : (depth tree : ℕ) (olds news : List Row) (child : Table) → (child.tree ≡ kept.tree → child.references ≡ []) → Spares kept.tree (filter_map (work_for schema keys depth tree olds news child) child.references)
  spare_child depth tree olds news child none = elim (cases_Bool (child.tree == kept.tree)) [
    | inl same ↦ let e : child.tree ≡ kept.tree = grind (arith, nat_tests) in subst (λ refs. Spares kept.tree (filter_map (work_for schema keys depth tree olds news child) refs)) (sym (none e)) tt
    | inr other ↦ spare_of depth tree olds news child child.references (λ e. grind (arith, nat_tests))
  ]

  spare_in : (depth tree : ℕ) (olds news : List Row) (tables : List Table) → IsFree kept.tree tables → Spares kept.tree (flat_map (λ (child : Table). filter_map (work_for schema keys depth tree olds news child) child.references) tables)
  spare_in depth tree olds news [] h = tt
  spare_in depth tree olds news (t ∷ tables) h = all-append (λ (w : Work). w.child.tree ≢ kept.tree) _ _ (spare_child depth tree olds news t h.0) (spare_in depth tree olds news tables h.1)

  works_spare : (depth tree : ℕ) (olds news : List Row) → Spares kept.tree (works schema keys depth tree olds news)
  works_spare depth tree olds news = spare_in depth tree olds news schema.tables free

  step_spares : (db next : Trees) (edit : Edit) → edit.table.tree ≢ kept.tree → Applies schema keys db edit next → next kept.tree ≡ db kept.tree
  step_spares db next edit other applies = all_has (λ (t : Table). t.tree ≢ edit.table.tree → next t.tree ≡ db t.tree) schema.tables kept applies.tables at (λ e. other (sym e))

  same_end : {a b : Trees} → ◌≡◌ {A = End} (Ok a) (Ok b) → a ≡ b
  same_end e = cc

  goes_spare : (n : ℕ) (db next : Trees) (edit : Edit) (depth : ℕ) (below : List Work)
      → ((db : Trees) (stack : List Work) → Spares kept.tree stack → Leads schema keys n db stack (Ok next) → next kept.tree ≡ db kept.tree)
      → edit.table.tree ≢ kept.tree → Spares kept.tree below → Goes schema keys (Leads schema keys n) db edit depth below (Ok next) → next kept.tree ≡ db kept.tree
  goes_spare n db next edit depth below rest other spares (inl refused) = absurd (let e = refused.2 in cc)
  goes_spare n db next edit depth below rest other spares (inr (inl big)) = absurd (let e = big.3 in cc)
  goes_spare n db next edit depth below rest other spares (inr (inr h)) =
      rest h.0 _ (all-append (λ (w : Work). w.child.tree ≢ kept.tree) _ _ spares (works_spare depth edit.table.tree (taken_by db edit) edit.news)) h.2 ∙ step_spares db h.0 edit other h.1

  acts_spare : (n : ℕ) (db next : Trees) (w : Work) (below : List Work) (ids : List ℤ)
      → ((db : Trees) (stack : List Work) → Spares kept.tree stack → Leads schema keys n db stack (Ok next) → next kept.tree ≡ db kept.tree)
      → w.child.tree ≢ kept.tree → Spares kept.tree below → ActsOn schema keys (Leads schema keys n) db w below (Ok next) ids → next kept.tree ≡ db kept.tree
  acts_spare n db next w below [] rest other spares h = rest db below spares h
  acts_spare n db next w below (id ∷ ids) rest other spares h = elim (cases_Bool (refuses w.deed)) [
    | inl stops ↦ absurd (let e = rw stops at h in cc)
    | inr goes ↦ goes_spare n db next (action_edit db w (id ∷ ids)) (w.depth + 1) below rest other spares (rw goes at h)
  ]

  split : (xs : List Work) (w : Work) → Spares kept.tree (xs ++ w ∷ []) → Spares kept.tree xs × (w.child.tree ≢ kept.tree)
  split [] w h = (tt, h.0)
  split (x ∷ xs) w h = let it = split xs w h.1 in ((h.0, it.0), it.1)

  leads_spare : (n : ℕ) (next db : Trees) (stack : List Work) → Spares kept.tree stack → Leads schema keys n db stack (Ok next) → next kept.tree ≡ db kept.tree
  leads_spare zero next db stack spares h = ap (λ (d : Trees). d kept.tree) (same_end h.1)
  leads_spare (suc n) next db stack spares h =
      let parts = split h.0 h.1 (subst (Spares kept.tree) h.2 spares) in
      elim (cases_Bool (nat_lt h.1.depth max_depth)) [
        | inl less ↦ let it = rw less at h.3 in acts_spare n db next h.1 h.0 it.0 (leads_spare n next) parts.1 parts.0 it.2
        | inr deep ↦ absurd (let e = rw deep at h.3 in cc)
      ]

  -- a table that refers to no other keeps its rows in a write to another
  pub writes_spare : (db next : Trees) (edit : Edit) → edit.table.tree ≢ kept.tree → Writes schema keys db edit (Ok next) → next kept.tree ≡ db kept.tree
  writes_spare db next edit other (inl refused) = absurd (let e = refused.2 in cc)
  writes_spare db next edit other (inr (inl big)) = absurd (let e = big.3 in cc)
  writes_spare db next edit other (inr (inr h)) =
      leads_spare h.2.0 next h.0 _ (works_spare 0 edit.table.tree (taken_by db edit) edit.news) h.2.1 ∙ step_spares db h.0 edit other h.1
