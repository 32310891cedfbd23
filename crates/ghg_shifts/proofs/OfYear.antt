-- What is noted of a year. Each leaf of the tree has at most one entry, and a leaf without one adds nothing.
-- So the entries at the leaves that a total counts add up to the shifts of all these leaves.
use Rattle.std.proofs.Common.{◌≡◌, ◌≤◌, ℕ, Bool, true, false, cond, not, ◌&&◌, ◌||◌, ◌==◌, eq-eqb, eqb-true, List, [], ◌∷◌, filter, map, length, inl, inr, Option, Some, None, refl, sym, ap, ap₂, ◌∙◌, subst, Ordering, Less, Equal, Greater}
use Rattle.std.specs.BTreeMap.{IsOrdered, is_at}
use Rattle.std.specs.BTreeMap.Range.{entries_between, range_contains}
use Rattle.std.specs.Cmp.{IsTotalOrder, unsigned_ties}
use Rattle.std.specs.Cmp.Lexicographic.{slice_cmp}
use Rattle.std.specs.List.{AllByRecursion, IsDistinct, list_any}
use Rattle.std.specs.Map.{keys_of, lookup}
use Rattle.std.specs.Option.{unwrap_or}
use Rattle.std.specs.Ordering.{eq_by_cmp, is_eq, is_le, is_lt, nat_cmp, ordering_then}
use Rattle.std.specs.declared.ops.Bound.TheVariants.{Included}
use Rattle.std.proofs.lemmas.Cmp.{eq_by_cmp_equiv, nat_cmp_total, nat_list_cmp_total, on_total, then_total}
use Rattle.std.proofs.lemmas.List.{length-map}
use Rattle.std.proofs.lemmas.Map.Entries.{lookup-filter-keys, lookup_tail}
use Rattle.std.proofs.lemmas.Map.Keys.{IsDistinct-from_sorted, IsDistinct-head, IsDistinct-tail}
use Rattle.std.proofs.lemmas.Map.Made.{IsDistinct-keys_filter, length-le_from_is_member}
use Rattle.ghg_categories.specs.declared.category.Category.{Category}
use Rattle.ghg_categories.specs.declared.category.Category.TheVariants.{National, C5B}
use Rattle.ghg_categories.specs.Tree.{code_of, is_same, tree}
use Rattle.ghg_cell.specs.declared.figures.Figures.{Figures}
use Rattle.ghg_cell.specs.Totals.{sum_all}
use Rattle.ghg_cell.specs.Values.{zero}
use Rattle.ghg_definitions.specs.Compilation.{is_in_tree}
use Rattle.ghg_definitions.specs.Listed.{IsListed}
use Rattle.ghg_definitions.proofs.Alike.{both, first_so, second_so}
use Rattle.ghg_definitions.proofs.Listed.{from_any, from_filter, from_map, listed, listed_any, listed_filter, listed_map, map_agree}
use Rattle.ghg_definitions.proofs.NodeLists.{category_same, tree_is}
use Rattle.ghg_affected.proofs.Bools.{never_so, true_not_false}
use Rattle.ghg_affected.proofs.Once.{Once, once_filter, once_tree}
use Rattle.ghg_shifts.specs.declared.shift.Shift.{Shift}
use Rattle.ghg_shifts.specs.declared.shifts.Shifts.{Shifts}
use Rattle.ghg_shifts.specs.Laws.{any_over}
use Rattle.ghg_shifts.specs.Noted.{Place, nothing, place_order, shift_at}
use Rattle.ghg_shifts.specs.Sums.{plus}
use Rattle.ghg_shifts.proofs.Leaves.{same_truth}
use Rattle.ghg_shifts.proofs.Places.{place_is, same_place}
use Rattle.ghg_shifts.proofs.Sums.{plus_before, zero_plus}

abbrev pub Entry : Type 0
Entry = Place × Shift

-- ---- the entries of a year

abbrev order : List ℕ → List ℕ → Ordering
order xs ys = slice_cmp nat_cmp xs ys

-- its bounds are the first category of the tree and the last
abbrev is_between : ℕ → Place → Bool
is_between year p = range_contains place_order (Included (year, National)) (Included (year, C5B)) p

abbrev pub entries_of : ℕ → Shifts → List Entry
entries_of year shifts =
    entries_between place_order (Included (year, National)) (Included (year, C5B)) shifts.by_leaf.entries

tree_between : (c : Category)
    → (is_le (order (code_of National) (code_of c)) && not (is_lt (order (code_of C5B) (code_of c))))
    ≡ is_in_tree c
tree_between National = refl
tree_between _ = refl

between_is : (year : ℕ) (p : Place) → is_between year p ≡ ((year == p.0) && is_in_tree p.1)
between_is year p =
    by (nat_cmp year p.0) ∙ ap (λ b. b && is_in_tree p.1) (sym (unsigned_ties year p.0))
  where
    by : (o : Ordering)
        → (is_le (ordering_then o (order (code_of National) (code_of p.1)))
        && not (is_lt (ordering_then o (order (code_of C5B) (code_of p.1)))))
        ≡ (is_eq o && is_in_tree p.1)
    by Less = refl
    by Equal = tree_between p.1
    by Greater = refl

-- ---- what entries note at leaves

abbrev pub noted : ℕ → List Entry → Category → Shift
noted year es leaf = unwrap_or (lookup (is_at (place_order (year, leaf))) es) nothing

-- those of the year note what all do
pub noted_in_year : (shifts : Shifts) (year : ℕ) (leaf : Category) → is_in_tree leaf ≡ true
    → noted year (entries_of year shifts) leaf ≡ shift_at shifts year leaf
noted_in_year shifts year leaf e =
    ap (λ o. unwrap_or o nothing)
    (lookup-filter-keys (is_at (place_order (year, leaf))) (is_between year) true there shifts.by_leaf.entries)
  where
    there : (p : Place) → is_at (place_order (year, leaf)) p ≡ true → is_between year p ≡ true
    there p same =
        let is = place_is year p.0 leaf p.1 (sym (same_place year p.0 leaf p.1) ∙ same) in
        between_is year p
        ∙ both (year == p.0) _ (eq-eqb year p.0 is.0) (subst (λ c. is_in_tree c ≡ true) is.1 e)

-- entries of the year at categories of the tree, no two at one place
pub record AreOfYear (year : ℕ) (es : List Entry) : Type 0 where
  pub places : (e : Entry) → IsListed e es → (year ≡ e.0.0) × (is_in_tree e.0.1 ≡ true)
  pub apart : IsDistinct (eq_by_cmp place_order) (keys_of es)

pub are_of_year : (year : ℕ) (shifts : Shifts) → IsOrdered place_order shifts.by_leaf
    → AreOfYear year (entries_of year shifts)
are_of_year year shifts ordered = record {
  places = λ e i.
      let within = from_filter (λ (d : Entry). is_between year d.0) e shifts.by_leaf.entries i in
      let is = sym (between_is year e.0) ∙ within.1 in
      (eqb-true year e.0.0 (first_so (year == e.0.0) _ is), second_so (year == e.0.0) _ is);
  apart = IsDistinct-keys_filter (eq_by_cmp place_order) (λ d. is_between year d.0) shifts.by_leaf.entries
      (IsDistinct-from_sorted place_order (keys_of shifts.by_leaf.entries) ordered);
}

-- no more than there are categories in the tree
pub few : (year : ℕ) (es : List Entry) → AreOfYear year es → length es ≤ 76
few year es of =
    subst (λ n. n ≤ 76) (length-map es (λ e. e.0))
    (length-le_from_is_member (eq_by_cmp_equiv total) (keys_of es) places of.apart member)
  where
    total : IsTotalOrder place_order
    total =
        then_total (on_total (λ (p : Place). p.0) nat_cmp_total)
        (on_total (λ (p : Place). code_of p.1) nat_list_cmp_total)

    places : List Place
    places = map (λ c. (year, c)) tree

    member : (p : Place) → list_any (eq_by_cmp place_order p) (keys_of es) ≡ true
        → list_any (eq_by_cmp place_order p) places ≡ true
    member p h =
        let found = from_any (eq_by_cmp place_order p) (keys_of es) h in
        let e = from_map (λ (d : Entry). d.0) found.0 es found.1 in
        let at = of.places e.0 e.1 in
        let leaf = e.0.0.1 in
        listed_any (eq_by_cmp place_order p) (year, leaf) places
        (listed_map (λ c. (year, c)) leaf tree (listed tree leaf ((tree_is leaf).0 at.1)))
        (subst (λ q. eq_by_cmp place_order p q ≡ true) (e.2 ∙ ap (λ y. (y, leaf)) (sym at.0)) found.2)

-- ---- the first entry, and the others

absent : (p : Place) (es : List Entry) → AllByRecursion (λ q. eq_by_cmp place_order p q ≡ false) (keys_of es)
    → lookup (is_at (place_order p)) es ≡ None
absent p [] h = refl
absent p (e ∷ es) h = lookup_tail (is_at (place_order p)) e es h.0 ∙ absent p es h.1

module _ (year : ℕ) (e : Entry) (es : List Entry) (of : AreOfYear year (e ∷ es)) where
  abbrev leaf : Category
  leaf = e.0.1

  same_year : year ≡ e.0.0
  same_year = (of.places e (inl refl)).0

  leaf_in_tree : is_in_tree leaf ≡ true
  leaf_in_tree = (of.places e (inl refl)).1

  others : AreOfYear year es
  others = record {
    places = λ d i. of.places d (inr i);
    apart = IsDistinct-tail (eq_by_cmp place_order) e.0 (keys_of es) of.apart;
  }

  is_its_place : (c : Category) → is_eq (place_order (year, c) e.0) ≡ is_same leaf c
  is_its_place c = same_place year e.0.0 c leaf ∙ same_truth _ (is_same leaf c)
      (λ h. (category_same leaf c).1 (sym ((category_same c leaf).0 (second_so (year == e.0.0) _ h))))
      (λ h. both (year == e.0.0) _ (eq-eqb year e.0.0 same_year)
      ((category_same c leaf).1 (sym ((category_same leaf c).0 h))))

  noted_first : (c : Category) → noted year (e ∷ es) c ≡ cond (is_same leaf c) e.1 (noted year es c)
  noted_first c = ap (λ b. unwrap_or (cond b (Some e.1) other) nothing) (is_its_place c) ∙ by (is_same leaf c)
    where
      other : Option Shift
      other = lookup (is_at (place_order (year, c))) es

      by : (b : Bool) → unwrap_or (cond b (Some e.1) other) nothing ≡ cond b e.1 (unwrap_or other nothing)
      by true = refl
      by false = refl

  -- of its leaf the others note nothing
  others_nothing : noted year es leaf ≡ nothing
  others_nothing =
      ap (λ y. noted y es leaf) same_year
      ∙ ap (λ o. unwrap_or o nothing)
      (absent e.0 es (IsDistinct-head (eq_by_cmp place_order) e.0 (keys_of es) of.apart))

-- ---- what the entries that a total counts add up to

abbrev pub passing : (Category → Bool) → List Entry → List Entry
passing test es = filter (λ (e : Entry). test e.0.1) es

abbrev pub shifts_of : List Entry → List Shift
shifts_of es = map (λ (e : Entry). e.1) es

abbrev pub picked : (Category → Bool) → List Entry → List Shift
picked test es = shifts_of (passing test es)

-- whatever shifts add up to, in any order and where nothing adds nothing
module _ {T : Type 0} (total : List Shift → T) (add : Shift → T → T)
    (first_is : (s : Shift) (ss : List Shift) → total (s ∷ ss) ≡ add s (total ss))
    (adds_nothing : (t : T) → add nothing t ≡ t)
    (any_order : (r s : Shift) (t : T) → add r (add s t) ≡ add s (add r t)) where
  nothing_at_all : (cs : List Category) → total (map (λ c. nothing) cs) ≡ total []
  nothing_at_all [] = refl
  nothing_at_all (c ∷ cs) = first_is nothing _ ∙ adds_nothing _ ∙ nothing_at_all cs

  -- one shift more, at a leaf that had none
  module _ (leaf : Category) (s : Shift) (at : Category → Shift) (none : at leaf ≡ nothing) where
    abbrev with_it : Category → Shift
    with_it c = cond (is_same leaf c) s (at c)

    elsewhere : (c : Category) → (leaf ≡ c → ⊥) → with_it c ≡ at c
    elsewhere c apart =
        ap (λ b. cond b s (at c)) (never_so (is_same leaf c) (λ e. apart ((category_same leaf c).0 e)))

    not_among : (cs : List Category) → (IsListed leaf cs → ⊥) → map with_it cs ≡ map at cs
    not_among cs off = map_agree with_it at cs
        (λ c i. elsewhere c (λ e. off (subst (λ d. IsListed d cs) (sym e) i)))

    among : (cs : List Category) → Once cs → IsListed leaf cs
        → total (map with_it cs) ≡ add s (total (map at cs))
    among [] once i = absurd i
    among (c ∷ cs) once (inl e) =
        first_is (with_it c) (map with_it cs)
        ∙ ap₂ (λ x ss. add x (total ss)) (ap (λ b. cond b s (at c)) ((category_same leaf c).1 e))
        (not_among cs (λ i. once.0 (subst (λ d. IsListed d cs) e i)))
        ∙ ap (add s) (sym (first_is (at c) (map at cs)
        ∙ ap (λ x. add x (total (map at cs))) (ap at (sym e) ∙ none) ∙ adds_nothing _))
    among (c ∷ cs) once (inr i) =
        first_is (with_it c) (map with_it cs)
        ∙ ap₂ add (elsewhere c (λ e. once.0 (subst (λ d. IsListed d cs) e i))) (among cs once.1 i)
        ∙ any_order (at c) s _
        ∙ ap (add s) (sym (first_is (at c) (map at cs)))

  pub totals_noted : (year : ℕ) (test : Category → Bool) (es : List Entry) → AreOfYear year es
      → total (picked test es) ≡ total (map (noted year es) (filter test tree))
  totals_noted year test [] of = sym (nothing_at_all (filter test tree))
  totals_noted year test (e ∷ es) of = by (test leaf) refl (totals_noted year test es (others year e es of))
    where
      leaf : Category
      leaf = e.0.1

      none : noted year es leaf ≡ nothing
      none = others_nothing year e es of

      now : map (noted year (e ∷ es)) (filter test tree)
          ≡ map (with_it leaf e.1 (noted year es) none) (filter test tree)
      now = map_agree _ _ (filter test tree) (λ c i. noted_first year e es of c)

      by : (b : Bool) → test leaf ≡ b → total (picked test es) ≡ total (map (noted year es) (filter test tree))
          → total (shifts_of (cond b (e ∷ passing test es) (passing test es)))
          ≡ total (map (noted year (e ∷ es)) (filter test tree))
      by true on rest =
          first_is e.1 (picked test es) ∙ ap (add e.1) rest
          ∙ sym (ap total now ∙ among leaf e.1 (noted year es) none (filter test tree)
          (once_filter test tree once_tree)
          (listed_filter test leaf tree (listed tree leaf ((tree_is leaf).0 (leaf_in_tree year e es of))) on))
      by false off rest =
          rest ∙ sym (ap total (now ∙ not_among leaf e.1 (noted year es) none (filter test tree)
          (λ i. true_not_false (sym (from_filter test leaf tree i).1 ∙ off))))

pub sums_noted : (f : Shift → Figures) → f nothing ≡ zero → (year : ℕ) (test : Category → Bool) (es : List Entry)
    → AreOfYear year es → sum_all (map f (picked test es)) ≡ sum_all (map f (map (noted year es) (filter test tree)))
sums_noted f none = totals_noted (λ ss. sum_all (map f ss)) (λ s t. plus (f s) t) (λ s ss. refl)
    (λ t. ap (λ x. plus x t) none ∙ zero_plus t) (λ r s t. plus_before (f s) (f r) t)

pub over_noted : (year : ℕ) (test : Category → Bool) (es : List Entry)
    → AreOfYear year es → any_over (picked test es) ≡ any_over (map (noted year es) (filter test tree))
over_noted = totals_noted any_over (λ s t. s.over || t) (λ s ss. refl) (λ t. refl) (λ r s t. swapped r.over s.over t)
  where
    swapped : (a b c : Bool) → (a || (b || c)) ≡ (b || (a || c))
    swapped true true c = refl
    swapped true false c = refl
    swapped false b c = refl
