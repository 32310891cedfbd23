-- The places of categories, as the type declares them, are in the order of the codes' bytes.
use Rattle.std.proofs.Common.{◌≡◌, ◌+◌, ◌<◌, ℕ, zero, suc, true, ◌==◌, List, [], ◌∷◌, ◌++◌, Ordering, nat_cmp, map, length, get_or, lit≤, refl, sym, ap, ◌∙◌, arith}
use Rattle.std.proofs.lemmas.Bool.{and_parts}
use Rattle.std.proofs.lemmas.Bool.Decides.{nat_tests}
use Rattle.std.proofs.lemmas.Cmp.{nat_list_cmp_total, same_from_slice_cmp, tied_itself}
use Rattle.std.proofs.lemmas.Map.Keys.{Less-from_sorted, sorted_from_all_adjacent}
use Rattle.std.specs.Cmp.{ranks, unsigned_ties}
use Rattle.std.specs.Cmp.Lexicographic.{pointwise, slice_cmp, texts_ties}
use Rattle.std.specs.List.Sorted.{IsStrictlySortedBy}
use Rattle.std.specs.Ordering.{MatchOrdering, is_eq, is_lt, ordering_reverse}
use Rattle.std.specs.Prelude.{nat_eq}
use Rattle.std.specs.declared.cmp.Ordering.TheVariants.{Less, Equal, Greater}
use Rattle.ghg_categories.specs.declared.category.Category.{Category}
use Rattle.ghg_categories.specs.declared.category.Category.TheVariants as at
use Rattle.ghg_categories.specs.declared.category.TheConstants.Category.{MEMO, TREE}
use Rattle.ghg_categories.specs.Orders.{is_before, is_ascending}
use Rattle.ghg_categories.specs.Places.{place_of}
use Rattle.ghg_categories.specs.Tree.{code_of}

abbrev order : List ℕ → List ℕ → Ordering
order xs ys = slice_cmp nat_cmp xs ys

abbrev codes_in_order : List (List ℕ)
codes_in_order = map code_of (TREE ++ MEMO)

-- ---- by computation

code_at : (c : Category) → get_or codes_in_order (place_of c) [] ≡ code_of c
code_at at.National = refl
code_at _ = refl

place_within : (c : Category) → place_of c < length codes_in_order
place_within at.National = lit≤ tt
place_within _ = lit≤ tt

codes_ascend : is_ascending codes_in_order ≡ true
codes_ascend = refl

-- ---- each code is before all those behind it

before_is_less : (xs ys : List ℕ) → is_before xs ys ≡ true → order xs ys ≡ Less
before_is_less xs ys e =
    let tested : is_lt (order xs ys) ≡ is_before xs ys = same_from_slice_cmp nat_cmp is_lt is_before refl (λ _ _. refl) (λ _ _. refl) (λ x y xs ys o h. grind (arith, nat_tests)) xs ys (order xs ys) refl in
    by (order xs ys) (tested ∙ e)
  where
    by : (o : Ordering) → is_lt o ≡ true → o ≡ Less
    by Less e = refl
    by Equal e = cc
    by Greater e = cc

each_before_next : (xs : List (List ℕ)) → is_ascending xs ≡ true → (k : ℕ) → k + 1 < length xs → order (get_or xs k []) (get_or xs (k + 1) []) ≡ Less
each_before_next [] e k inside = absurd (omega arith)
each_before_next (x ∷ []) e k inside = absurd (omega arith)
each_before_next (x ∷ y ∷ zs) e zero inside = before_is_less x y (and_parts (is_before x y) _ e).0
each_before_next (x ∷ y ∷ zs) e (suc k) inside =
    let next : suc k + 1 ≡ suc (k + 1) = omega arith in
    rw next (each_before_next (y ∷ zs) (and_parts (is_before x y) _ e).1 k (omega arith))

sorted : IsStrictlySortedBy order codes_in_order
sorted = sorted_from_all_adjacent nat_list_cmp_total codes_in_order [] (each_before_next codes_in_order codes_ascend)

-- ---- categories by their places

less : (a b : Category) → place_of a < place_of b → order (code_of a) (code_of b) ≡ Less
less a b below = rw (← code_at a, ← code_at b) (Less-from_sorted order codes_in_order (place_of a) (place_of b) [] sorted below (place_within b))

pub places_order : (a b : Category) → nat_cmp (place_of a) (place_of b) ≡ order (code_of a) (code_of b)
places_order a b = by (nat_cmp (place_of a) (place_of b)) (ranks (place_of a) (place_of b))
  where
    by : (o : Ordering) → MatchOrdering o (place_of a < place_of b) (place_of a ≡ place_of b) (place_of b < place_of a) → o ≡ order (code_of a) (code_of b)
    by Less below = sym (less a b below)
    by Equal same =
        let codes_are : code_of a ≡ code_of b = sym (code_at a) ∙ ap (λ (k : ℕ). get_or codes_in_order k []) same ∙ code_at b in
        sym (tied_itself nat_list_cmp_total (code_of a)) ∙ ap (order (code_of a)) codes_are
    by Greater above = sym (nat_list_cmp_total.antisymm (code_of a) (code_of b) ∙ ap ordering_reverse (less b a above))

pub places_equal : (a b : Category) → (place_of a == place_of b) ≡ pointwise nat_eq (code_of a) (code_of b)
places_equal a b = unsigned_ties (place_of a) (place_of b) ∙ ap is_eq (places_order a b) ∙ sym (texts_ties (code_of a) (code_of b))
