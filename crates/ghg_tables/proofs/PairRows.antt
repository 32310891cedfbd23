-- The pairs of a workbook ascend, and their amounts are within the limit of assessments.
use Rattle.std.proofs.Common.{◌≡◌, ℕ, ◌+◌, ◌*◌, ◌≤◌, Bool, true, false, not, cond, ◌&&◌, if◌then◌else◌, List, [], ◌∷◌, ◌++◌, length, map, filter, flat_map, Option, Some, None, refl, sym, ap, ap₂, ◌∙◌, arith}
use Rattle.std.specs.List.{AllByRecursion, count_by, sum_by}
use Rattle.std.specs.List.Sorted.{IsStrictlySortedBy}
use Rattle.std.specs.Option.{option_map_or}
use Rattle.std.specs.Ordering.{is_eq, is_lt, ordering_then}
use Rattle.std.specs.declared.cmp.Ordering.{Ordering}
use Rattle.std.specs.declared.cmp.Ordering.TheVariants.{Less}
use Rattle.std.specs.Cmp.{IsTotalOrder}
use Rattle.std.proofs.lemmas.Cmp.{on_total, then_total, tied_itself}
use Rattle.std.proofs.lemmas.List.Concat.{flat_map-append}
use Rattle.std.proofs.lemmas.List.Folds.{flat_map-map}
use Rattle.std.proofs.lemmas.List.Kept.{IsStrictlySortedBy-filter}
use Rattle.std.proofs.lemmas.List.Sums.{count_by-le-length, length-filter, sum_by-append, sum_by-cons}
use Rattle.std.proofs.lemmas.Map.Keys.{sorted_head, sorted_tail}
use Rattle.std.proofs.lemmas.Bool.{and_parts}
use Rattle.ghg_keycat.proofs.InOrder.{less_is}
use Rattle.ghg_definitions.proofs.Keys.{equal_by}
use Rattle.ghg_categories.specs.declared.category.Category.{Category}
use Rattle.ghg_categories.specs.Tree.{tree}
use Rattle.ghg_categories.specs.contracts.category.CategoryOrd.TheImpl as category_order
use Rattle.ghg_categories.specs.contracts.category.CategoryOrd.TheImpl.Laws as category_laws
use Rattle.ghg_equations.specs.contracts.quantity.GasOrd.TheImpl as gas_order
use Rattle.ghg_equations.specs.contracts.quantity.GasOrd.TheImpl.Laws as gas_laws
use Rattle.ghg_equations.specs.declared.quantity.Gas.{Gas}
use Rattle.ghg_equations.specs.declared.quantity.Gas.TheVariants.{Co2, Ch4, N2o, Cf4, C2f6}
use Rattle.ghg_equations.specs.Quantity.{gases}
use Rattle.ghg_definitions.specs.Compilation.{compilation, sheet_of}
use Rattle.ghg_definitions.specs.Data.{Data, Name, line_names}
use Rattle.ghg_definitions.specs.Rules.{most_lines}
use Rattle.ghg_definitions.specs.Trials.{IsCompilation, Outcomes}
use Rattle.ghg_keycat.specs.declared.Pair.{Pair}
use Rattle.ghg_keycat.specs.Ranking.{AreDistinct, category_and_gas, key_order}
use Rattle.ghg_keycat.specs.Sizes.{gross, gross_limit}
use Rattle.ghg_keycat.proofs.Keys.{distinct_from_ascending}
use Rattle.ghg_uncertainty.specs.Totals.{amount_limit}
use Rattle.ghg_tables.specs.declared.pairs.Years.{Years}
use Rattle.ghg_tables.specs.Sums.{emission, is_empty, pair_at, pair_lines, pair_of, pairs, same_pair}
use Rattle.ghg_tables.proofs.Amounts.{tonnes_small}
use Rattle.ghg_tables.proofs.ByPair.{stands_at}

-- ---- all pairs, in order

abbrev Key : Type 0
Key = Category × Gas

abbrev code_order : Category → Category → Ordering
code_order = (category_order.ghosts).cmp

-- each category with each gas
abbrev with_gases : Category → List Key
with_gases c = map (λ g. (c, g)) gases

abbrev pub products : List Category → List Key
products cs = flat_map with_gases cs

-- each comes before the next
abbrev rises : List Category → Bool
rises [] = true
rises (x ∷ []) = true
rises (x ∷ y ∷ zs) = is_lt (code_order x y) && rises (y ∷ zs)

later_too : (x y : Category) (zs : List Category) → code_order x y ≡ Less → AllByRecursion (λ z. code_order y z ≡ Less) zs → AllByRecursion (λ z. code_order x z ≡ Less) zs
later_too x y [] less all = tt
later_too x y (z ∷ zs) less all = (category_laws.total-law.trans x y z less all.0, later_too x y zs less all.1)

rising_sorted : (cs : List Category) → rises cs ≡ true → IsStrictlySortedBy code_order cs
unfolding IsStrictlySortedBy
rising_sorted [] e = tt
rising_sorted (x ∷ []) e = (tt, tt)
rising_sorted (x ∷ y ∷ zs) e =
    let both = and_parts (is_lt (code_order x y)) (rises (y ∷ zs)) e in
    let less : code_order x y ≡ Less = less_is (code_order x y) both.0 in
    let rest : IsStrictlySortedBy code_order (y ∷ zs) = rising_sorted (y ∷ zs) both.1 in
    ((less, later_too x y zs less (sorted_head code_order y zs rest)), rest)

tree_sorted : IsStrictlySortedBy code_order tree
tree_sorted = rising_sorted tree refl

-- pairs of one category are in the order of their gases, and those of a later one come later
same_code : (c : Category) (g h : Gas) → (gas_order.ghosts).cmp g h ≡ Less → key_order (c, g) (c, h) ≡ Less
same_code c g h less = ap (λ o. ordering_then o ((gas_order.ghosts).cmp g h)) (tied_itself category_laws.total-law c) ∙ less

later_code : (c d : Category) (g h : Gas) → code_order c d ≡ Less → key_order (c, g) (d, h) ≡ Less
later_code c d g h less = ap (λ o. ordering_then o ((gas_order.ghosts).cmp g h)) less

before_rest : (c : Category) (g : Gas) (cs : List Category) → AllByRecursion (λ d. code_order c d ≡ Less) cs → AllByRecursion (λ k. key_order (c, g) k ≡ Less) (products cs)
before_rest c g [] all = tt
before_rest c g (d ∷ cs) all = (later_code c d g Co2 all.0, (later_code c d g Ch4 all.0, (later_code c d g N2o all.0, (later_code c d g Cf4 all.0, (later_code c d g C2f6 all.0, before_rest c g cs all.1)))))

products_sorted : (cs : List Category) → IsStrictlySortedBy code_order cs → IsStrictlySortedBy key_order (products cs)
unfolding IsStrictlySortedBy
products_sorted [] sorted = tt
products_sorted (c ∷ cs) sorted =
    let rest = λ (g : Gas). before_rest c g cs sorted.0 in (
      (same_code c Co2 Ch4 refl, (same_code c Co2 N2o refl, (same_code c Co2 Cf4 refl, (same_code c Co2 C2f6 refl, rest Co2)))),
      (
        (same_code c Ch4 N2o refl, (same_code c Ch4 Cf4 refl, (same_code c Ch4 C2f6 refl, rest Ch4))),
        (
          (same_code c N2o Cf4 refl, (same_code c N2o C2f6 refl, rest N2o)),
          (
            (same_code c Cf4 C2f6 refl, rest Cf4),
            (rest C2f6, products_sorted cs sorted.1),
          ),
        ),
      ),
    )

pub all_sorted : IsStrictlySortedBy key_order (products tree)
all_sorted = products_sorted tree tree_sorted

-- ---- a key stands once among those that ascend

key_total : IsTotalOrder key_order
key_total = then_total (on_total (λ (k : Key). k.0) category_laws.total-law) (on_total (λ (k : Key). k.1) gas_laws.total-law)

none_tied : (e k : Key) (ks : List Key) → same_pair e k ≡ true → AllByRecursion (λ z. key_order k z ≡ Less) ks → count_by (λ z. same_pair e z) ks ≡ 0
none_tied e k [] same all = refl
none_tied e k (z ∷ ks) same all =
    let less : key_order e z ≡ Less = key_total.congr e k z (equal_by (key_order e k) same) ∙ all.0 in
    let not_z : same_pair e z ≡ false = ap is_eq less in
    sum_by-cons (λ z. cond (same_pair e z) 1 0) z ks ∙ ap₂ (λ (a b : ℕ). a + b) (ap (λ b. cond b 1 0) not_z) (none_tied e k ks same all.1)

abbrev one_if : Bool → ℕ
one_if b = cond b 1 0

once : (e : Key) (ks : List Key) → IsStrictlySortedBy key_order ks → count_by (λ z. same_pair e z) ks ≤ 1
once e [] sorted = omega arith
once e (k ∷ ks) sorted = by (same_pair e k) refl (once e ks (sorted_tail key_order k ks sorted))
  where
    by : (b : Bool) → same_pair e k ≡ b → count_by (λ z. same_pair e z) ks ≤ 1 → count_by (λ z. same_pair e z) (k ∷ ks) ≤ 1
    by true same rest = omega (arith, sum_by-cons (λ z. cond (same_pair e z) 1 0) k ks, ap one_if same, none_tied e k ks same (sorted_head key_order k ks sorted))
    by false same rest = omega (arith, sum_by-cons (λ z. cond (same_pair e z) 1 0) k ks, ap one_if same, rest)

-- ---- lines stand at one pair each

-- sums of two terms
sum_of_sums : {X : Type 0} (f g : X → ℕ) (xs : List X) → sum_by (λ x. f x + g x) xs ≡ sum_by f xs + sum_by g xs
sum_of_sums f g [] = refl
sum_of_sums f g (x ∷ xs) = omega (arith, sum_by-cons (λ y. f y + g y) x xs, sum_by-cons f x xs, sum_by-cons g x xs, sum_of_sums f g xs)

sum_of_none : {X : Type 0} (xs : List X) → sum_by (λ x. 0) xs ≡ 0
sum_of_none [] = refl
sum_of_none (x ∷ xs) = omega (arith, sum_by-cons (λ y. 0) x xs, sum_of_none xs)

same_sums : {X : Type 0} (f g : X → ℕ) (xs : List X) → ((x : X) → f x ≡ g x) → sum_by f xs ≡ sum_by g xs
same_sums f g [] e = refl
same_sums f g (x ∷ xs) e = omega (arith, sum_by-cons f x xs, sum_by-cons g x xs, e x, same_sums f g xs e)

-- where each name passes at one key at most, all keys together have no more names than there are
counted_once : (test : Key → Name → Bool) (ks : List Key) (names : List Name) → ((name : Name) → count_by (λ k. test k name) ks ≤ 1) → sum_by (λ k. count_by (test k) names) ks ≤ length names
counted_once test ks [] once = omega (arith, sum_of_none ks)
counted_once test ks (x ∷ names) once =
    let split : sum_by (λ k. count_by (test k) (x ∷ names)) ks ≡ sum_by (λ k. cond (test k x) 1 0 + count_by (test k) names) ks =
    same_sums (λ k. count_by (test k) (x ∷ names)) (λ k. cond (test k x) 1 0 + count_by (test k) names) ks (λ k. sum_by-cons (λ name. cond (test k name) 1 0) x names) in
    omega (arith, split, sum_of_sums (λ k. cond (test k x) 1 0) (λ k. count_by (test k) names) ks, once x, counted_once test ks names once)

at_one : (at : Option Key) (ks : List Key) → IsStrictlySortedBy key_order ks → count_by (λ k. option_map_or (λ e. same_pair e k) at false) ks ≤ 1
at_one None ks sorted = omega (arith, sum_of_none ks)
at_one (Some e) ks sorted = once e ks sorted

pub lines_once : (m : Data) (ks : List Key) → IsStrictlySortedBy key_order ks → sum_by (λ k. length (pair_lines m k)) ks ≤ length (line_names m)
lines_once m ks sorted =
    let counts : sum_by (λ k. length (pair_lines m k)) ks ≡ sum_by (λ k. count_by (stands_at m k) (line_names m)) ks =
    same_sums (λ k. length (pair_lines m k)) (λ k. count_by (stands_at m k) (line_names m)) ks (λ k. length-filter (stands_at m k) (line_names m)) in
    omega (arith, counts, counted_once (stands_at m) ks (line_names m) (λ name. at_one (emission m name) ks sorted))

-- ---- the pairs of a workbook

module _ (m : Data) (outcomes : Outcomes) (years : Years) where
  abbrev rows_of : List Key → List Pair
  rows_of ks = flat_map (pair_at m outcomes years) ks

  all_rows : (cs : List Category) → flat_map (λ c. flat_map (λ g. pair_at m outcomes years (c, g)) gases) cs ≡ rows_of (products cs)
  all_rows [] = refl
  all_rows (c ∷ cs) =
      ap₂ (λ (xs ys : List Pair). xs ++ ys) (sym (flat_map-map (pair_at m outcomes years) (λ (g : Gas). let k : Key = (c, g) in k) gases)) (all_rows cs)
      ∙ sym (flat_map-append (pair_at m outcomes years) (with_gases c) (products cs))

  pub pairs_are : pairs m outcomes years ≡ rows_of (products tree)
  unfolding pairs
  pairs_are = all_rows tree

  abbrev is_present : Key → Bool
  is_present k = not (is_empty (pair_lines m k))

  keys_are : (ks : List Key) → map category_and_gas (rows_of ks) ≡ filter is_present ks
  unfolding pair_at
  keys_are [] = refl
  keys_are (k ∷ ks) = by (is_empty (pair_lines m k)) refl (keys_are ks)
    where
      by : (b : Bool) → is_empty (pair_lines m k) ≡ b → map category_and_gas (rows_of ks) ≡ filter is_present ks → map category_and_gas (rows_of (k ∷ ks)) ≡ filter is_present (k ∷ ks)
      by true e rest = ap (λ b. map category_and_gas ((if b then [] else (pair_of m outcomes years k ∷ [])) ++ rows_of ks)) e ∙ rest ∙ sym (ap (λ b. cond (not b) (k ∷ filter is_present ks) (filter is_present ks)) e)
      by false e rest = ap (λ b. map category_and_gas ((if b then [] else (pair_of m outcomes years k ∷ [])) ++ rows_of ks)) e ∙ ap (λ xs. k ∷ xs) rest ∙ sym (ap (λ b. cond (not b) (k ∷ filter is_present ks) (filter is_present ks)) e)

  pub pairs_distinct : AreDistinct (pairs m outcomes years)
  pairs_distinct = rw pairs_are (distinct_from_ascending (rows_of (products tree)) (rw (keys_are (products tree)) (IsStrictlySortedBy-filter key_order is_present (products tree) all_sorted)))

module _ (m : Data) (compiled : IsCompilation (sheet_of m) (compilation m)) (years : Years) where
  pair_small : (k : Key) → sum_by gross (pair_at m (compilation m) years k) ≤ 2 * amount_limit * length (pair_lines m k)
  unfolding pair_at
  pair_small k = by (is_empty (pair_lines m k))
    where
      by : (b : Bool) → sum_by gross (if b then [] else (pair_of m (compilation m) years k ∷ [])) ≤ 2 * amount_limit * length (pair_lines m k)
      by true = omega arith
      by false = omega (arith, tonnes_small m compiled years.base (pair_lines m k), tonnes_small m compiled years.current (pair_lines m k), sum_by-cons gross (pair_of m (compilation m) years k) [])

  rows_small : (ks : List Key) → sum_by gross (flat_map (pair_at m (compilation m) years) ks) ≤ 2 * amount_limit * sum_by (λ k. length (pair_lines m k)) ks
  rows_small [] = omega arith
  rows_small (k ∷ ks) = omega (arith, sum_by-append gross (pair_at m (compilation m) years k) (flat_map (pair_at m (compilation m) years) ks), sum_by-cons (λ q. length (pair_lines m q)) k ks, pair_small k, rows_small ks)

  all_small : (ks : List Key) → IsStrictlySortedBy key_order ks → length (line_names m) ≤ most_lines → sum_by gross (flat_map (pair_at m (compilation m) years) ks) ≤ gross_limit
  all_small ks sorted few = omega (arith, rows_small ks, lines_once m ks sorted, few)

  pub pairs_small : length (line_names m) ≤ most_lines → sum_by gross (pairs m (compilation m) years) ≤ gross_limit
  pairs_small few = rw (pairs_are m (compilation m) years) (all_small (products tree) all_sorted few)

pub few_at : (m : Data) (pair : Key) → length (pair_lines m pair) ≤ length (line_names m)
few_at m pair = omega (arith, length-filter (stands_at m pair) (line_names m), count_by-le-length (stands_at m pair) (line_names m))
