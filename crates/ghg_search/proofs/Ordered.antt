-- Nodes that are listed in order, series by series.
use Rattle.std.proofs.Common.{◌≡◌, ◌⊎◌, inl, inr, ℕ, ◌+◌, ◌<◌, ◌≤◌, ◌==◌, cond, length, get_or, take, map, Bool, Some, is_eq, true, false, List, [], ◌∷◌, ◌++◌, refl, sym, ap, ◌∙◌, subst, arith}
use Rattle.std.proofs.lemmas.Bool.{cases_lt, lt-ltb}
use Rattle.std.proofs.lemmas.List.{get_or-take, get_or_default, length-take}
use Rattle.std.proofs.lemmas.Map.Keys.{Less-from_sorted}
use Rattle.std.specs.BTreeMap.{is_at}
use Rattle.std.specs.List.{AllByRecursion}
use Rattle.std.specs.List.Sorted.{IsStrictlySortedBy}
use Rattle.std.specs.Map.{lookup}
use Rattle.std.specs.Option.{option_map_or}
use Rattle.std.specs.Ordering.{nat_cmp, ordering_then}
use Rattle.std.specs.declared.cmp.Ordering.TheVariants.{Equal, Greater, Less}
use Rattle.ghg_units.specs.declared.node.Node.{Node}
use Rattle.ghg_definitions.specs.Listed.{IsListed}
use Rattle.ghg_definitions.specs.Nodes.{node_cmp, year_in}
use Rattle.ghg_definitions.proofs.Keys.{equal_by}
use Rattle.ghg_definitions.proofs.Listed.{contained, in_either, listed_left, listed_right}
use Rattle.ghg_affected.proofs.Bools.{true_not_false}
use Rattle.ghg_graph.proofs.LineNumbers.{take_next}
use Rattle.ghg_search.specs.Found.{IsIn, is_found}
use Rattle.ghg_search.specs.Listing.{AreListed, AreOfSeries}
use Rattle.ghg_search.specs.Series.{IsOf}
use Rattle.ghg_columns.specs.Cells.{node_at, series_of, series_order}
use Rattle.ghg_data.specs.YearSet.{has_year}
use Rattle.ghg_search.specs.declared.found.Found.{Found}
use Rattle.ghg_columns.specs.declared.series.Series.{Series}
use Rattle.ghg_data.specs.declared.year_set.YearSet.{YearSet}
use Rattle.ghg_search.proofs.Groups.{at_of, by_series, node_back, of_node, series_itself, series_less, series_same, year_back}
use Rattle.ghg_search.proofs.Sources.{listed_next, listed_one}
use Rattle.ghg_search.proofs.Spans.{next_or_before}

-- ---- a node behind others

all_push : (x : Node) (xs : List Node) (n : Node) → AllByRecursion (λ y. node_cmp x y ≡ Less) xs → node_cmp x n ≡ Less
    → AllByRecursion (λ y. node_cmp x y ≡ Less) (xs ++ n ∷ [])
all_push x [] n all e = (e, tt)
all_push x (y ∷ ys) n all e = (all.0, all_push x ys n all.1 e)

sorted_push : (xs : List Node) (n : Node) → IsStrictlySortedBy node_cmp xs → ((m : Node) → IsListed m xs → node_cmp m n ≡ Less)
    → IsStrictlySortedBy node_cmp (xs ++ n ∷ [])
unfolding IsStrictlySortedBy
sorted_push [] n sorted below = (tt, tt)
sorted_push (x ∷ xs) n sorted below =
    (all_push x xs n sorted.0 (below x (inl refl)), sorted_push xs n sorted.1 (λ m i. below m (inr i)))

-- ---- the years of a series

year_less : (a b : ℕ) → a < b → nat_cmp a b ≡ Less
year_less a b h = ap (λ t. cond t Less (cond (a == b) Equal Greater)) (lt-ltb a b h)

pub record IsPut (s : Series) (years : YearSet) (old : List Node) (last : ℕ) (now : List Node) : Type 0 where
  pub kept : (n : Node) → IsListed n old → IsListed n now
  pub all : (n : Node) → 0 < year_in n → year_in n ≤ last → IsOf s years n → IsListed n now
  pub only : (n : Node) → IsListed n now → IsListed n old ⊎ (IsOf s years n × (year_in n ≤ last))
  pub order : IsStrictlySortedBy node_cmp old → ((n : Node) → IsListed n old → series_order (series_of n) s ≡ Less)
      → IsStrictlySortedBy node_cmp now

pub put_none : (s : Series) (years : YearSet) (old : List Node) → IsPut s years old 0 old
put_none s years old = record {
  kept = λ n i. i;
  all = λ n some none of. absurd (omega (arith, some, none));
  only = λ n i. inl i;
  order = λ sorted before. sorted;
}

module _ (s : Series) (years : YearSet) (old now more : List Node) (last year : ℕ) (put : IsPut s years old last now) (later : last < year)
    (has : has_year years year ≡ true) (gap : (y : ℕ) → last < y → y < year → has_year years y ≡ false) (n : Node)
    (is : n ≡ node_at s year) (pushed : more ≡ now ++ n ∷ []) where
  before_it : ((m : Node) → IsListed m old → series_order (series_of m) s ≡ Less) → (m : Node) → IsListed m now → node_cmp m n ≡ Less
  before_it before m i = subst (λ k. node_cmp m k ≡ Less) (sym is) (elim (put.only m i) [
    | inl was ↦ subst (λ k. node_cmp k (node_at s year) ≡ Less) (node_back m)
        (series_less (series_of m) s (year_in m) year (before m was))
    | inr of ↦ subst (λ k. node_cmp k (node_at s year) ≡ Less) (sym (of_node s years m of.0))
        (by_series s s (year_in m) year ∙ ap (λ o. ordering_then o (nat_cmp (year_in m) year)) (equal_by _ (series_itself s))
        ∙ year_less (year_in m) year (omega (arith, of.1, later)))
  ])

  listed_before : (m : Node) → IsListed m now → IsListed m more
  listed_before m i = subst (IsListed m) (sym pushed) (listed_left m now (n ∷ []) i)

  pub put_more : IsPut s years old year more
  put_more = record {
    kept = λ m i. listed_before m (put.kept m i);
    all = λ m some low of. elim (next_or_before last year (year_in m) low) [
      | inl before ↦ listed_before m (put.all m some before of)
      | inr j ↦ elim j [
        | inl between ↦ absurd (true_not_false (sym of.1 ∙ gap (year_in m) between.0 between.1))
        | inr same ↦ subst (IsListed m) (sym pushed)
            (listed_right m now (n ∷ []) (inl (of_node s years m of ∙ ap (node_at s) same ∙ sym is)))
      ]
    ];
    only = λ m i. elim (in_either m now (n ∷ []) (subst (IsListed m) pushed i)) [
      | inl was ↦ elim (put.only m was) [ inl old ↦ inl old | inr of ↦ inr (of.0, omega (arith, of.1, later)) ]
      | inr j ↦
          let same = listed_one _ _ j ∙ is in
          let e : year_in m ≡ year = ap year_in same ∙ year_back s year in
          inr (subst (IsOf s years) (sym same) (at_of s years year has), omega (arith, e))
    ];
    order = λ sorted before. subst (IsStrictlySortedBy node_cmp) (sym pushed) (sorted_push now n (put.order sorted before) (before_it before));
  }

pub put_all : (s : Series) (years : YearSet) (old now : List Node) (last : ℕ) → IsPut s years old last now
    → ((y : ℕ) → last < y → has_year years y ≡ false) → AreListed s years old now
put_all s years old now last put none = record {
  kept = put.kept;
  all = λ n some of. elim (cases_lt last (year_in n)) [
    | inl behind ↦ absurd (true_not_false (sym of.1 ∙ none (year_in n) behind))
    | inr before ↦ put.all n some before of
  ];
  only = λ n i. elim (put.only n i) [ inl was ↦ inl was | inr of ↦ inr of.0 ];
  order = put.order;
}

-- ---- series after series

pub series_none : (f : Found) (all : List Series) → AreOfSeries f (take 0 all) []
unfolding IsStrictlySortedBy
series_none f all = record {
  order = tt;
  only = λ n i. absurd i;
  all_found = λ n some is i. absurd i;
}

-- a series with a node that is found is one of the keys
pub key_listed : (s : Series) (es : List (Series × YearSet)) (y : ℕ)
    → option_map_or (λ years. has_year years y) (lookup (is_at (series_order s)) es) false ≡ true → IsListed s (map (λ e. e.0) es)
key_listed s [] y is = absurd (true_not_false (sym is))
key_listed s (e ∷ es) y is = by (is_eq (series_order s e.0)) refl (key_listed s es y) is
  where
    by : (b : Bool) → is_eq (series_order s e.0) ≡ b
        → (option_map_or (λ years. has_year years y) (lookup (is_at (series_order s)) es) false ≡ true → IsListed s (map (λ e. e.0) es))
        → option_map_or (λ years. has_year years y) (cond b (Some e.1) (lookup (is_at (series_order s)) es)) false ≡ true
        → (s ≡ e.0) ⊎ IsListed s (map (λ e. e.0) es)
    by true same more is = inl (series_same s e.0 same)
    by false off more is = inr (more is)

-- each of the first ones is before the next
first_less : (all : List Series) (i : ℕ) (s : Series) → IsStrictlySortedBy series_order all → i < length all → s ≡ get_or all i s
    → (q : Series) → IsListed q (take i all) → series_order q s ≡ Less
first_less all i s sorted h e q j =
    let at = contained (take i all) q j in
    let low : at.0 < i = omega (arith, at.1, length-take i all) in
    subst (λ x. series_order x s ≡ Less) (sym (get_or-take i all at.0 q low) ∙ at.2)
    (subst (λ x. series_order (get_or all at.0 q) x ≡ Less) (sym (e ∙ get_or_default all i s q h))
    (Less-from_sorted series_order all at.0 i q sorted low h))

module _ (f : Found) (all : List Series) (i : ℕ) (s : Series) (years : YearSet) (now more : List Node)
    (sorted : IsStrictlySortedBy series_order all) (h : i < length all) (e : s ≡ get_or all i s)
    (are : (y : ℕ) → has_year years y ≡ is_found f s y) (listed : AreListed s years now more)
    (of : AreOfSeries f (take i all) now) where
  found_of : (n : Node) → IsOf s years n → IsIn f n
  found_of n o = subst (λ q. is_found f q (year_in n) ≡ true) (sym o.0) (sym (are (year_in n)) ∙ o.1)

  pub series_more : AreOfSeries f (take (i + 1) all) more
  series_more = record {
    order = listed.order of.order (λ n j. first_less all i s sorted h e (series_of n) (of.only n j).1);
    only = λ n j. elim (listed.only n j) [
      | inl was ↦ ((of.only n was).0, subst (IsListed (series_of n)) (sym (take_next all i s h e)) (listed_left (series_of n) (take i all) (s ∷ []) (of.only n was).1))
      | inr o ↦ (found_of n o, subst (IsListed (series_of n)) (sym (take_next all i s h e)) (listed_right (series_of n) (take i all) (s ∷ []) (inl o.0)))
    ];
    all_found = λ n some is j. elim (listed_next all i s h e (series_of n) j) [
      | inl before ↦ listed.kept n (of.all_found n some is before)
      | inr same ↦ listed.all n some (same, are (year_in n) ∙ subst (λ q. is_found f q (year_in n) ≡ true) same is)
    ];
  }
