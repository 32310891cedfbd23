-- The running sum over entries in order counts what stands before each.
use Rattle.std.proofs.Common.{◌≡◌, ℕ, ◌+◌, ◌<◌, ◌≤◌, true, false, cond, List, length, map, take, drop, get_or, [], ◌∷◌, ◌++◌, suc, refl, sym, ap, ap₂, subst, ◌∙◌, arith}
use Rattle.std.specs.List.{All, sum_by}
use Rattle.std.specs.Ordering.{is_lt}
use Rattle.std.proofs.lemmas.List.{map-append, take_all, get_or_default, get_or-take, get_or-drop, length-take, length-drop}
use Rattle.std.proofs.lemmas.List.Elements.{All-get_or, All-push}
use Rattle.std.proofs.lemmas.Grind.{take_at_read}
use Rattle.std.proofs.lemmas.List.Sorted.{sum_by-IsPermutation, IsPermutation-map, All-permutation}
use Rattle.ghg_keycat.specs.declared.Pair.{Pair}
use Rattle.ghg_keycat.specs.declared.ranking.Ranked.{Ranked}
use Rattle.ghg_keycat.specs.declared.KeyRow.{KeyRow}
use Rattle.ghg_keycat.specs.Entries.{by_entry, size_in, AreDescending, IsRanked, IsKeyed, row_at}
use Rattle.ghg_keycat.specs.Ranking.{AreDistinct, IsRanking, ranks_before}
use Rattle.ghg_keycat.proofs.Sums.{sum_same, sum_map, sum_before}
use Rattle.ghg_keycat.proofs.Order.{AreApart, descending_far, strictly, apart_moved, apart_entries}

abbrev IsSized : (Pair → ℕ) → Ranked → Type 0
IsSized size r = size_in r ≡ size r.pair

-- both orders agree where the sizes are the pairs'
same_order : (size : Pair → ℕ) (x y : Ranked) → IsSized size x → IsSized size y → is_lt (by_entry x y) ≡ ranks_before size x.pair y.pair
same_order size x y a b = rw (a, b) refl

module _ (size : Pair → ℕ) (rows : List Pair) (xs : List Ranked) (sized : All (IsSized size) xs) (down : AreDescending xs) (apart : AreApart xs) where
  at : (k : ℕ) (d : Ranked) → k < length xs → IsSized size (get_or xs k d)
  at k d h = All-get_or (IsSized size) xs k d h sized

  pub earlier : (i j : ℕ) (d : Ranked) → i < j → j < length xs → ranks_before size (get_or xs i d).pair (get_or xs j d).pair ≡ true
  earlier i j d h k =
      let il : i < length xs = omega arith in
      let n = apart j i d k il (λ e. omega (arith, e)) in
      let entry = strictly (get_or xs i d) (get_or xs j d) (descending_far xs down i j d (omega arith) k) n in
      sym (same_order size (get_or xs i d) (get_or xs j d) (at i d il) (at j d k)) ∙ entry

  later : (i j : ℕ) (d : Ranked) → i ≤ j → j < length xs → ranks_before size (get_or xs j d).pair (get_or xs i d).pair ≡ false
  later i j d h k =
      let il : i < length xs = omega arith in
      sym (same_order size (get_or xs j d) (get_or xs i d) (at j d k) (at i d il)) ∙ descending_far xs down i j d h k

  -- the sum of the sizes in front of the entry at k
  pub sum_in_front : (k : ℕ) (d : Ranked) → k < length xs → sum_by (λ (r : Ranked). cond (ranks_before size r.pair (get_or xs k d).pair) (size r.pair) 0) xs ≡ sum_by size_in (take k xs)
  sum_in_front k d h =
      let p : Pair = (get_or xs k d).pair in
      let front : All (λ (r : Ranked). cond (ranks_before size r.pair p) (size r.pair) 0 ≡ size_in r) (take k xs) =
      λ i e l.
      let below : i < k = omega (arith, l, length-take k xs) in
      let same : get_or (take k xs) i e ≡ get_or xs i d = get_or-take k xs i e below ∙ get_or_default xs i e d (omega arith) in
      let first : ranks_before size (get_or xs i d).pair p ≡ true = earlier i k d below h in
      rw (same, first) (sym (at i d (omega arith))) in
      let back : All (λ (r : Ranked). cond (ranks_before size r.pair p) (size r.pair) 0 ≡ 0) (drop k xs) =
      λ i e l.
      let within : k + i < length xs = omega (arith, l, length-drop k xs) in
      let same : get_or (drop k xs) i e ≡ get_or xs (k + i) d = get_or-drop k xs i e ∙ get_or_default xs (k + i) e d within in
      let not_first : ranks_before size (get_or xs (k + i) d).pair p ≡ false = later k (k + i) d (omega arith) within in
      rw (same, not_first) refl in
      sum_before (λ (r : Ranked). cond (ranks_before size r.pair p) (size r.pair) 0) size_in xs k front back

same_pairs : (keys : List KeyRow) (xs : List Ranked) → length keys ≡ length xs → ((k : ℕ) (d : Ranked) (e : KeyRow) → k < length xs → (get_or keys k e).pair ≡ (get_or xs k d).pair) → map (λ (r : KeyRow). r.pair) keys ≡ map (λ (r : Ranked). r.pair) xs
same_pairs [] [] h e = refl
same_pairs [] (x ∷ xs) h e = absurd (omega (arith, h))
same_pairs (k ∷ ks) [] h e = absurd (omega (arith, h))
same_pairs (k ∷ ks) (x ∷ xs) h e = ap₂ (λ (p : Pair) (ps : List Pair). p ∷ ps) (e 0 x k (omega arith)) (same_pairs ks xs (omega (arith, h)) (λ i d f l. e (suc i) d f (omega arith)))

-- an entry, where there is one
some_entry : (xs : List Ranked) → 0 < length xs → Ranked
some_entry [] h = absurd (omega (arith, h))
some_entry (x ∷ xs) h = x

pub ranking : (size : Pair → ℕ) (rows : List Pair) (ranked : List Ranked) (keys : List KeyRow) → AreDistinct rows → IsRanked size rows ranked → IsKeyed ranked keys → IsRanking size rows keys
ranking size rows ranked keys distinct is keyed =
    let xs : List Ranked = keyed.sorted in
    let count : length keys ≡ length xs = keyed.running.count in
    let sized : All (IsSized size) xs = All-permutation (IsSized size) ranked xs keyed.moved is.sizes in
    let apart : AreApart xs = apart_moved ranked xs keyed.moved (apart_entries rows ranked distinct is.pairs) in
    let over : (g : Pair → ℕ) → sum_by g rows ≡ sum_by (λ (r : Ranked). g r.pair) xs = λ g. rw (← is.pairs) (sum_map g (λ (r : Ranked). r.pair) ranked ∙ sym (sum_by-IsPermutation (λ (r : Ranked). g r.pair) ranked xs keyed.moved)) in
    let total : sum_by size_in xs ≡ sum_by size rows = sum_same size_in (λ (r : Ranked). size r.pair) xs sized ∙ sym (over size) in
    let row : (k : ℕ) (d : Ranked) (e : KeyRow) → k < length xs → get_or keys k e ≡ row_at xs k (get_or xs k d) = keyed.running.rows in
    record {
      pairs = rw (same_pairs keys xs count (λ k d e l. ap (λ (r : KeyRow). r.pair) (row k d e l)), ← is.pairs) (IsPermutation-map (λ (r : Ranked). r.pair) ranked xs keyed.moved);
      ordered = λ k e l.
          let d : Ranked = some_entry xs (omega (arith, l, count)) in
          let next : k + 1 < length xs = omega (arith, l, count) in
          let here : k < length xs = omega arith in
          rw (row k d e here, row (k + 1) d e next) (earlier size rows xs sized keyed.descending apart k (k + 1) d (omega arith) next);
      each = λ k e l.
          let d : Ranked = some_entry xs (omega (arith, l, count)) in
          let here : k < length xs = omega (arith, l, count) in
          rw (row k d e here) (record {
            size_is = All-get_or (IsSized size) xs k d here sized;
            before_is = sym (sum_in_front size rows xs sized keyed.descending apart k d here) ∙ sym (over (λ p. cond (ranks_before size p (get_or xs k d).pair) (size p) 0));
            total_is = total;
            key_is = refl;
          });
    }

pub total_of : (size : Pair → ℕ) (rows : List Pair) (ranked : List Ranked) → IsRanked size rows ranked → sum_by size_in ranked ≡ sum_by size rows
total_of size rows ranked is = sum_same size_in (λ (r : Ranked). size r.pair) ranked is.sizes ∙ rw (← is.pairs) (sym (sum_map size (λ (r : Ranked). r.pair) ranked))

pub all_ranked : (size : Pair → ℕ) (rows : List Pair) (n : ℕ) (ranked : List Ranked) → length rows ≤ n → IsRanked size (take n rows) ranked → IsRanked size rows ranked
all_ranked size rows n ranked h is = subst (λ (ps : List Pair). IsRanked size ps ranked) (take_all n rows h) is

pub one_more : (size : Pair → ℕ) (rows : List Pair) (n : ℕ) (d : Pair) (ranked : List Ranked) (r : Ranked) → n < length rows → r.pair ≡ get_or rows n d → IsSized size r → IsRanked size (take n rows) ranked → IsRanked size (take (n + 1) rows) (ranked ++ r ∷ [])
one_more size rows n d ranked r h same sized is =
    let next : take (n + 1) rows ≡ take n rows ++ get_or rows n d ∷ [] = (take_at_read rows n d h).1 in
    record {
      pairs = map-append (λ (x : Ranked). x.pair) ranked (r ∷ []) ∙ rw (is.pairs, same) (sym next);
      sizes = All-push (IsSized size) ranked r is.sizes sized;
    }
