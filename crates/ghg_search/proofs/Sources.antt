-- Lines under sources.
use Rattle.std.proofs.Common.{◌≡◌, ◌⊎◌, inl, inr, ℕ, ◌+◌, ◌<◌, ◌≤◌, Bool, true, false, cond, if◌then◌else◌, List, [], ◌∷◌, ◌++◌, length, get_or, take, flat_map, map, option_and_then, is_eq, Option, Some, None, Vec, Global, refl, sym, ap, ◌∙◌, subst}
use Rattle.std.proofs.lemmas.Cmp.{tied_itself}
use Rattle.std.proofs.lemmas.List.{get_or_default, take_all}
use Rattle.std.specs.Cmp.Lexicographic.{bytes_decides}
use Rattle.std.specs.FinMap as finite
use Rattle.std.specs.List.{list_any}
use Rattle.std.specs.Option.{option_map, option_map_or, option_to_list}
use Rattle.std.specs.Ordering.{eq_by_cmp}
use Rattle.std.specs.Str.{bytes_eq}
use Rattle.ghg_equations.specs.declared.eq_id.EqId.{EqId}
use Rattle.ghg_equations.specs.declared.row.Param.{Param}
use Rattle.ghg_equations.specs.Table.{Quantity, output, parameters}
use Rattle.ghg_equations.specs.Quantity.{gas_of}
use Rattle.ghg_units.specs.Name.{potential_name}
use Rattle.ghg_definitions.specs.declared.record.Record.{Record}
use Rattle.ghg_definitions.specs.declared.record.RecordKey.{RecordKey}
use Rattle.ghg_definitions.specs.declared.record.RecordKey.TheVariants as key
use Rattle.ghg_definitions.specs.Compilation.{line_gas}
use Rattle.ghg_definitions.specs.Data.{Data, Name, as_binding, as_line, binding, key_cmp, line}
use Rattle.ghg_definitions.specs.Listed.{IsListed}
use Rattle.ghg_definitions.proofs.Depth.{or_else}
use Rattle.ghg_definitions.proofs.Keys.{equal_by, keys_same, keys_total}
use Rattle.ghg_definitions.proofs.Listed.{from_any, from_flat, in_either, listed, listed_any, listed_flat, listed_left, listed_right}
use Rattle.ghg_affected.proofs.Bools.{true_not_false}
use Rattle.ghg_data.specs.Parameters.{quantity}
use Rattle.ghg_graph.proofs.Marking.{equal_itself, names_equal}
use Rattle.ghg_graph.proofs.LineNumbers.{take_next}
use Rattle.ghg_graph.proofs.Pushed.{items_in}
use Rattle.ghg_search.specs.Index.{DifferAt, HasUser, HasUsers, IsUnderBy, Keeps, named_by, source_order, sources_at, sources_of, users_of}
use Rattle.ghg_search.specs.declared.index.Index.{Index}
use Rattle.ghg_search.specs.declared.index.Source.{Source}
use Rattle.ghg_search.specs.declared.index.Source.TheVariants as source

-- ---- the order of sources

pub source_same : (a b : Source) → is_eq (source_order a b) ≡ true → a ≡ b
source_same (source.Activity a) (source.Activity b) e = ap (λ n. source.Activity n) (names_equal a b e)
source_same (source.Factor a) (source.Factor b) e = ap (λ n. source.Factor n) (names_equal a b e)
source_same (source.Line a) (source.Line b) e = ap (λ n. source.Line n) (names_equal a b e)
source_same (source.Previous a) (source.Previous b) e = ap (λ n. source.Previous n) (names_equal a b e)
source_same a b e = absurd (cc)

pub source_itself : (a : Source) → is_eq (source_order a a) ≡ true
source_itself (source.Activity a) = equal_itself a
source_itself (source.Factor a) = equal_itself a
source_itself (source.Line a) = equal_itself a
source_itself (source.Previous a) = equal_itself a

pub name_itself : (name : Name) → bytes_eq name name ≡ true
name_itself name = (bytes_decides name name).1 refl

-- ---- a line more

-- under one source stand other lines
pub items_now : (old new : Option (Vec Name Global)) (now : Vec Name Global) (b : Bool)
    → new ≡ cond b (Some now) old → items_in new ≡ (if b then now.items else items_in old)
items_now old new now true is = ap items_in is
items_now old new now false is = ap items_in is

module _ (old new : Index) (at : Source) (items : List Name)
    (now : (s : Source) → users_of new s ≡ (if is_eq (source_order at s) then items else users_of old s)) where
  -- they are more
  pub kept_under : ((x : Name) → IsListed x (users_of old at) → IsListed x items) → Keeps old new
  kept_under more s x i = subst (IsListed x) (sym (now s)) (by (is_eq (source_order at s)) refl)
    where
      by : (b : Bool) → is_eq (source_order at s) ≡ b → IsListed x (if b then items else users_of old s)
      by true e = more x (subst (λ k. IsListed x (users_of old k)) (sym (source_same at s e)) i)
      by false e = i

  pub put_under : (x : Name) → IsListed x items → HasUser new at x
  put_under x i = subst (IsListed x) (sym (now at
      ∙ ap (λ b. if b then items else users_of old at) (source_itself at))) i

-- ---- what is listed up to a place

pub listed_one : {A : Type 0} (x y : A) → IsListed x (y ∷ []) → x ≡ y
listed_one x y (inl e) = e
listed_one x y (inr none) = absurd none

pub listed_next : {A : Type 0} (xs : List A) (i : ℕ) (x : A) → i < length xs → x ≡ get_or xs i x → (y : A)
    → IsListed y (take (i + 1) xs) → IsListed y (take i xs) ⊎ (y ≡ x)
listed_next xs i x h e y j =
    elim (in_either y (take i xs) (x ∷ []) (subst (IsListed y) (take_next xs i x h e) j)) [
      | inl k ↦ inl k
      | inr k ↦ inr (listed_one y x k)
    ]

-- what holds of each of the first ones and of the next, and of all of them at the end
pub each_next : {A : Type 0} (P : A → Type 0) (xs : List A) (i : ℕ) (x : A) → i < length xs → x ≡ get_or xs i x
    → ((y : A) → IsListed y (take i xs) → P y) → P x → (y : A) → IsListed y (take (i + 1) xs) → P y
each_next P xs i x h e before here y j = elim (listed_next xs i x h e y j) [
  | inl k ↦ before y k
  | inr same ↦ subst P (sym same) here
]

pub each_all : {A : Type 0} (P : A → Type 0) (xs : List A) (i : ℕ) → length xs ≤ i
    → ((y : A) → IsListed y (take i xs) → P y) → (y : A) → IsListed y xs → P y
each_all P xs i h each y j = each y (subst (IsListed y) (sym (take_all i xs h)) j)

pub flat_next : {A B : Type 0} (f : A → List B) (xs : List A) (i : ℕ) (d : A) → i < length xs → (y : B)
    → IsListed y (flat_map f (take (i + 1) xs)) → IsListed y (flat_map f (take i xs)) ⊎ IsListed y (f (get_or xs i d))
flat_next {A = A} {B = B} f xs i d h y j =
    let from = from_flat f y (take (i + 1) xs) j in
    elim (listed_next xs i (get_or xs i d) h (get_or_default xs i d (get_or xs i d) h) from.0 from.1) [
      | inl k ↦ inl (listed_in from.0 k from.2)
      | inr same ↦ inr (subst (λ x. IsListed y (f x)) same from.2)
    ]
  where
    listed_in : (x : A) → IsListed x (take i xs) → IsListed y (f x) → IsListed y (flat_map f (take i xs))
    listed_in x k l = flat (take i xs) k
      where
        flat : (zs : List A) → IsListed x zs → IsListed y (flat_map f zs)
        flat [] k = absurd k
        flat (z ∷ zs) (inl e) = listed_left y (f z) (flat_map f zs) (subst (λ w. IsListed y (f w)) e l)
        flat (z ∷ zs) (inr k) = listed_right y (f z) (flat_map f zs) (flat zs k)

-- ---- what a line names, by the parameters in the code

named_flat : (m : Data) (name : Name) (ps : List Param)
    → flat_map (λ (q : Quantity). named_by (binding m name q.name)) (map quantity ps) ≡ sources_at m name ps
named_flat m name [] = refl
named_flat m name (p ∷ ps) = ap (λ xs. named_by (binding m name p.name.now) ++ xs) (named_flat m name ps)

pub sources_by : (m : Data) (name : Name) (ps : List Param) (id : EqId) → Some id ≡ line m name
    → map quantity ps ≡ parameters id
    → sources_of m name ≡ sources_at m name ps ++ option_to_list (option_map (λ gas. source.Factor (potential_name gas)) (line_gas m name))
sources_by m name ps id at all =
    ap (λ xs. xs ++ option_to_list (option_map (λ gas. source.Factor (potential_name gas)) (line_gas m name)))
    (ap (λ o. option_map_or (λ e. flat_map (λ q. named_by (binding m name q.name)) (parameters e)) o []) (sym at)
    ∙ ap (flat_map (λ (q : Quantity). named_by (binding m name q.name))) (sym all)
    ∙ named_flat m name ps)

-- what is named by the equation, and by the bindings
names_by : Name → Option EqId → (Name → Option Record) → List Source
names_by name o at =
    option_map_or (λ e. flat_map (λ q. named_by (as_binding (at q.name))) (parameters e)) o []
    ++ option_to_list (option_map (λ gas. source.Factor (potential_name gas)) (option_and_then (λ e. gas_of (output e)) o))

-- a line that is not present names nothing
pub no_sources : (m : Data) (name : Name) → None ≡ line m name → (s : Source) → IsListed s (sources_of m name) → ⊥
unfolding names_by
no_sources m name none s i = subst (λ o. IsListed s (names_by name o (λ p. finite.get m (key.Bind name p)))) (sym none) i

-- ---- lines by the keys of their records

-- where more stands under the sources
pub still_under : (m : Data) (old new : Index) → Keeps old new → (k : RecordKey) → IsUnderBy m old k → IsUnderBy m new k
still_under m old new keeps key.Span under = tt
still_under m old new keeps (key.Activity name year) under = tt
still_under m old new keeps (key.Factor name start) under = tt
still_under m old new keeps (key.Line name) under = λ s i. keeps s name (under s i)
still_under m old new keeps (key.Bind name parameter) under = λ s i. keeps s name (under s i)
still_under m old new keeps (key.Uncert name) under = tt

module _ (keys : List RecordKey) (old new : Data) (same : DifferAt keys old new) (index : Index)
    (done : (k : RecordKey) → IsListed k keys → IsUnderBy new index k) where
  -- the key is one of them, or its record is as it was
  done_or_same : (k : RecordKey) → IsUnderBy new index k ⊎ (finite.get old k ≡ finite.get new k)
  done_or_same k = elim (or_else (list_any (eq_by_cmp key_cmp k) keys)) [
    | inl there ↦ let found = from_any (eq_by_cmp key_cmp k) keys there in
        inl (subst (IsUnderBy new index) (sym (keys_same k found.0 (equal_by _ found.2))) (done found.0 found.1))
    | inr none ↦ inr (same k (λ c. true_not_false
        (sym (listed_any (eq_by_cmp key_cmp k) k keys (listed keys k c) (ap is_eq (tied_itself keys_total k))) ∙ none)))
  ]

  module _ (has : HasUsers old index) (name : Name) (kept : finite.get old (key.Line name) ≡ finite.get new (key.Line name)) (s : Source) where
    abbrev bound_by : Data → Option EqId → List Source
    bound_by m o = option_map_or (λ e. flat_map (λ q. named_by (binding m name q.name)) (parameters e)) o []

    abbrev weighed_by : Option EqId → List Source
    weighed_by o = option_to_list (option_map (λ gas. source.Factor (potential_name gas)) (option_and_then (λ e. gas_of (output e)) o))

    -- what a line with the record that it had names by its bindings, and by its gas
    by_bindings : (o : Option EqId) → line old name ≡ o → IsListed s (bound_by new o) → HasUser index s name
    by_bindings None is i = absurd i
    by_bindings (Some e) is i =
        let from = from_flat (λ q. named_by (binding new name q.name)) s (parameters e) i in
        elim (done_or_same (key.Bind name from.0.name)) [
          | inl under ↦ under s from.2
          | inr as_before ↦
              let before = subst (λ r. IsListed s (named_by (as_binding r))) (sym as_before) from.2 in
              has name s (listed_left s (bound_by old (line old name)) _
              (subst (λ o. IsListed s (bound_by old o)) (sym is)
              (listed_flat (λ q. named_by (binding old name q.name)) from.0 s (parameters e) from.1 before)))
        ]

    by_gas : IsListed s (weighed_by (line new name)) → HasUser index s name
    by_gas i = has name s (listed_right s (bound_by old (line old name)) _ (subst (λ r. IsListed s (weighed_by (as_line r))) (sym kept) i))

  pub all_under : HasUsers old index → HasUsers new index
  all_under has name s i = elim (done_or_same (key.Line name)) [
    | inl under ↦ under s i
    | inr kept ↦ elim (in_either s (option_map_or (λ e. flat_map (λ q. named_by (binding new name q.name)) (parameters e)) (line new name) []) _ i) [
      | inl j ↦ by_bindings has name kept s (line new name) (ap as_line kept) j
      | inr j ↦ by_gas has name kept s j
    ]
  ]
