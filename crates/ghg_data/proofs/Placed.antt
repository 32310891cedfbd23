-- Names in order, where a binary search looked for one.
use Rattle.std.proofs.Common.{◌≡◌, ℕ, zero, suc, ◌<◌, ◌≤◌, false, cond, not, List, [], ◌∷◌, length, get_or, Ok, Err, refl, sym, ap, ◌∙◌, Less, Equal, Greater, is_eq, arith, add-one}
use Rattle.std.specs.Ordering.{eq_by_cmp, is_lt, ordering_reverse}
use Rattle.std.specs.Cmp.{IsTotalOrder, alike_right, tied_back}
use Rattle.std.specs.Cmp.Lexicographic.{nat_list_cmp_total}
use Rattle.std.specs.List.{AllByRecursion, AllWithin, HoldsAt, insert, remove}
use Rattle.std.specs.List.Sorted.{IsBinarySearchResult, IsPartitionPoint, IsStrictlySortedBy}
use Rattle.std.proofs.lemmas.List.Sorted.{searchable_from_sorted}
use Rattle.ghg_definitions.specs.Data.{Name, name_cmp}
use Rattle.ghg_data.specs.Names.{placed, with_name, without_name}

total : IsTotalOrder name_cmp
total = nat_list_cmp_total

greater : (x n : Name) → name_cmp x n ≡ Less → name_cmp n x ≡ Greater
greater x n e = total.antisymm n x ∙ ap ordering_reverse e

less : (x n : Name) → name_cmp x n ≡ Greater → name_cmp n x ≡ Less
less x n e = total.antisymm n x ∙ ap ordering_reverse e

all_at : {X : Type 0} (P : X → Type 0) (xs : List X) (i : ℕ) (d : X) → AllByRecursion P xs → i < length xs → P (get_or xs i d)
all_at P [] i d h l = absurd (omega arith)
all_at P (x ∷ xs) zero d h l = h.0
all_at P (x ∷ xs) (suc i) d h l = all_at P xs i d h.1 (omega arith)

adjacent : (xs : List Name) (k : ℕ) (d : Name) → IsStrictlySortedBy name_cmp xs → suc k < length xs → name_cmp (get_or xs k d) (get_or xs (suc k) d) ≡ Less
unfolding IsStrictlySortedBy
adjacent [] k d h l = absurd (omega arith)
adjacent (x ∷ xs) zero d h l = all_at (λ y. name_cmp x y ≡ Less) xs zero d h.0 (omega arith)
adjacent (x ∷ xs) (suc k) d h l = adjacent xs k d h.1 (omega arith)

-- a search among names in order splits them
split : (xs : List Name) (n : Name) (i : ℕ) → IsStrictlySortedBy name_cmp xs → IsBinarySearchResult (λ y. name_cmp y n) xs (Err i) → IsPartitionPoint (λ y. name_cmp y n ≡ Less) (λ y. name_cmp y n ≡ Greater) xs i
split xs n i h search_says = search_says (searchable_from_sorted total (λ x. x) xs n (λ k d low high.
    let up = adjacent xs k d h (omega arith) in
    rw add-one (ap is_lt (greater (get_or xs k d) (get_or xs (suc k) d) up))))

inserted : (xs : List Name) (n : Name) (i : ℕ) → i ≤ length xs → AllWithin (λ y. name_cmp y n ≡ Less) xs 0 i → AllWithin (λ y. name_cmp y n ≡ Greater) xs i (length xs) → insert xs i n ≡ with_name n xs
inserted [] n zero l before after = refl
inserted [] n (suc i) l before after = absurd (omega arith)
inserted (x ∷ xs) n zero l before after = sym (ap (λ o. placed o n x xs (with_name n xs)) (less x n (after 0 x (omega arith) (omega arith))))
inserted (x ∷ xs) n (suc i) l before after =
    ap (λ ys. x ∷ ys) (inserted xs n i (omega arith) (λ k d low high. before (suc k) d (omega arith) (omega arith)) (λ k d low high. after (suc k) d (omega arith) (omega arith)))
    ∙ sym (ap (λ o. placed o n x xs (with_name n xs)) (greater x n (before 0 x (omega arith) (omega arith))))

found : (xs : List Name) (n : Name) (i : ℕ) → IsStrictlySortedBy name_cmp xs → i < length xs → HoldsAt (λ y. name_cmp y n ≡ Equal) xs i → with_name n xs ≡ xs
unfolding IsStrictlySortedBy
found [] n i h l at = absurd (omega arith)
found (x ∷ xs) n zero h l at = ap (λ o. placed o n x xs (with_name n xs)) (tied_back total x n (at x))
found (x ∷ xs) n (suc i) h l at =
    let below : name_cmp x n ≡ Less = sym (alike_right total (get_or xs i x) n x (at x)) ∙ all_at (λ y. name_cmp x y ≡ Less) xs i x h.0 (omega arith) in
    ap (λ o. placed o n x xs (with_name n xs)) (greater x n below) ∙ ap (λ ys. x ∷ ys) (found xs n i h.1 (omega arith) at)

pub none_taken : (xs : List Name) (n : Name) → AllByRecursion (λ y. eq_by_cmp name_cmp n y ≡ false) xs → without_name n xs ≡ xs
none_taken [] n h = refl
none_taken (x ∷ xs) n h = ap (λ b. cond (not b) (x ∷ without_name n xs) (without_name n xs)) h.0 ∙ ap (λ ys. x ∷ ys) (none_taken xs n h.1)

pub above : (x n : Name) (xs : List Name) → name_cmp x n ≡ Equal → AllByRecursion (λ y. name_cmp x y ≡ Less) xs → AllByRecursion (λ y. eq_by_cmp name_cmp n y ≡ false) xs
above x n [] e h = tt
above x n (y ∷ ys) e h = (ap is_eq (sym (total.congr x n y e) ∙ h.0), above x n ys e h.1)

removed : (xs : List Name) (n : Name) (i : ℕ) → IsStrictlySortedBy name_cmp xs → i < length xs → HoldsAt (λ y. name_cmp y n ≡ Equal) xs i → remove xs i ≡ without_name n xs
unfolding IsStrictlySortedBy
removed [] n i h l at = absurd (omega arith)
removed (x ∷ xs) n zero h l at =
    sym (ap (λ o. cond (not (is_eq o)) (x ∷ without_name n xs) (without_name n xs)) (tied_back total x n (at x)) ∙ none_taken xs n (above x n xs (at x) h.0))
removed (x ∷ xs) n (suc i) h l at =
    let below : name_cmp x n ≡ Less = sym (alike_right total (get_or xs i x) n x (at x)) ∙ all_at (λ y. name_cmp x y ≡ Less) xs i x h.0 (omega arith) in
    ap (λ ys. x ∷ ys) (removed xs n i h.1 (omega arith) at) ∙ sym (ap (λ o. cond (not (is_eq o)) (x ∷ without_name n xs) (without_name n xs)) (greater x n below))

missed : (xs : List Name) (n : Name) (i : ℕ) → AllWithin (λ y. name_cmp y n ≡ Less) xs 0 i → AllWithin (λ y. name_cmp y n ≡ Greater) xs i (length xs) → AllByRecursion (λ y. eq_by_cmp name_cmp n y ≡ false) xs
missed [] n i before after = tt
missed (x ∷ xs) n zero before after = (ap is_eq (less x n (after 0 x (omega arith) (omega arith))), missed xs n zero (λ k d low high. absurd (omega arith)) (λ k d low high. after (suc k) d (omega arith) (omega arith)))
missed (x ∷ xs) n (suc i) before after = (ap is_eq (greater x n (before 0 x (omega arith) (omega arith))), missed xs n i (λ k d low high. before (suc k) d (omega arith) (omega arith)) (λ k d low high. after (suc k) d (omega arith) (omega arith)))

-- nothing is taken where the search did not find the name
pub remove_place : (xs : List Name) (n : Name) (i : ℕ) → IsStrictlySortedBy name_cmp xs → IsBinarySearchResult (λ y. name_cmp y n) xs (Err i) → xs ≡ without_name n xs
remove_place xs n i h s = let at = split xs n i h s in sym (none_taken xs n (missed xs n i at.0 at.1))

-- it goes where the search missed it,
pub insert_place : (xs : List Name) (n : Name) (i : ℕ) → IsStrictlySortedBy name_cmp xs → i ≤ length xs → IsBinarySearchResult (λ y. name_cmp y n) xs (Err i) → insert xs i n ≡ with_name n xs
insert_place xs n i h l s = let at = split xs n i h s in inserted xs n i l at.0 at.1

-- and stands where the search found it
pub insert_found : (xs : List Name) (n : Name) (i : ℕ) → IsStrictlySortedBy name_cmp xs → i < length xs → IsBinarySearchResult (λ y. name_cmp y n) xs (Ok i) → xs ≡ with_name n xs
insert_found xs n i h l s = sym (found xs n i h l s)

pub remove_found : (xs : List Name) (n : Name) (i : ℕ) → IsStrictlySortedBy name_cmp xs → i < length xs → IsBinarySearchResult (λ y. name_cmp y n) xs (Ok i) → remove xs i ≡ without_name n xs
remove_found xs n i h l s = removed xs n i h l s
