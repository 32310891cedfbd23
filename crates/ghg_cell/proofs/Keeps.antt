-- Each kind of step keeps the rule.
use Rattle.std.proofs.Common.{◌≡◌, ℕ, ◌+◌, ◌<◌, ◌≤◌, ◌≢◌, min, List, [], ◌∷◌, ◌++◌, set, refl, sym, subst, ⊎_elim, length-append, arith}
use Rattle.std.proofs.lemmas.Bool.Decides.{nat_tests}
use Rattle.atomic_table.proofs.Lists.{at_set, at_snoc}
use mathlib.Core.Option.{some, some-injective}
use lib.ListN.{get_elem?}
use Rattle.ghg_cell.specs.declared.view.View.{View}
use Rattle.ghg_cell.specs.BoardRule.{over_all, once_below, claims_of, count_of, stake_of, misses_of, fresh, cut, with_place, with_miss, both, spent, IsSound, Kept}
use Rattle.ghg_cell.proofs.Views.{sum_set, sum_snoc, times_append, once_one_more}

pub keeps_opening : (places : ℕ) → places ≤ 1000000000 → Kept places 0 (fresh places 64 ∷ [])
keeps_opening places small = record {
  small = small;
  sound = λ i v at. first i v at;
  once = λ x. grind (arith, nat_tests);
  counted = omega arith;
  stakes = refl;
  missed = omega arith;
}
  where
    first : (i : ℕ) (v : View) → get_elem? (fresh places 64 ∷ []) i ≡ some v → IsSound places v
    first i v at = ⊎_elim (λ (none : get_elem? [] i ≡ some v). nowhere i v none) (λ (e : fresh places 64 ≡ v). subst (IsSound places) e ((λ _. refl), omega arith, λ _. refl)) (at_snoc [] (fresh places 64) v i at)
      where
        nowhere : (i : ℕ) (v : View) → get_elem? [] i ≡ some v → IsSound places v
        nowhere i v none = absurd (mathlib.Core.Option.some-ne-none v (sym none))

-- one view changes to one that is sound
sound_set : (places i : ℕ) (w : View) (views : List View) → ((j : ℕ) (v : View) → get_elem? views j ≡ some v → IsSound places v) → IsSound places w
    → (j : ℕ) (u : View) → get_elem? (set views i w) j ≡ some u → IsSound places u
sound_set places i w views sound well j u at =
    ⊎_elim (λ (t : (j ≡ i) × (w ≡ u)). subst (IsSound places) t.1 well) (λ (t : (j ≢ i) × (get_elem? views j ≡ some u)). sound j u t.1) (at_set views i j w u at)

-- and one more comes behind them
sound_snoc : (places : ℕ) (w : View) (views : List View) → ((j : ℕ) (v : View) → get_elem? views j ≡ some v → IsSound places v) → IsSound places w
    → (j : ℕ) (u : View) → get_elem? (views ++ w ∷ []) j ≡ some u → IsSound places u
sound_snoc places w views sound well j u at =
    ⊎_elim (λ (old : get_elem? views j ≡ some u). sound j u old) (λ (e : w ≡ u). subst (IsSound places) e well) (at_snoc views w u j at)

module _ (places word : ℕ) (views : List View) (i : ℕ) (v : View) (k : Kept places word views) (at : get_elem? views i ≡ some v) where
  pub keeps_place : v.misses < v.stake → word < places → Kept places (word + 1) (set views i (with_place v word))
  keeps_place staked lower = record {
    small = k.small;
    sound = sound_set places i (with_place v word) views k.sound ((λ _. (k.sound i v at).0 (omega arith)), (k.sound i v at).1, λ none. absurd (omega arith));
    once = λ x.
        let a = sum_set (claims_of x) views i v (with_place v word) at in
        let b = times_append x v.claimed (word ∷ []) in
        let c = k.once x in
        let d = once_one_more x word in
        let now : min word places ≡ word = omega arith in
        let next : min (word + 1) places ≡ word + 1 = omega arith in
        let c' : over_all (claims_of x) views ≡ once_below x word = rw (← now) c in
        rw next (omega arith);
    counted = let a = sum_set count_of views i v (with_place v word) at in let b = length-append v.claimed (word ∷ []) in let c = k.counted in omega arith;
    stakes = let a = sum_set stake_of views i v (with_place v word) at in let b = k.stakes in omega arith;
    missed = let a = sum_set misses_of views i v (with_place v word) at in let b = k.missed in omega arith;
  }

  pub keeps_miss : v.misses < v.stake → places ≤ word → Kept places (word + 1) (set views i (with_miss v))
  keeps_miss staked over = record {
    small = k.small;
    sound = sound_set places i (with_miss v) views k.sound ((λ _. (k.sound i v at).0 (omega arith)), omega arith, λ none. absurd (omega arith));
    once = λ x.
        let a = sum_set (claims_of x) views i v (with_miss v) at in
        let c = k.once x in
        let same : min (word + 1) places ≡ min word places = omega arith in
        rw same (omega arith);
    counted = let a = sum_set count_of views i v (with_miss v) at in let c = k.counted in omega arith;
    stakes = let a = sum_set stake_of views i v (with_miss v) at in let b = k.stakes in omega arith;
    missed = let a = sum_set misses_of views i v (with_miss v) at in let b = k.missed in omega arith;
  }

  pub keeps_cut : v.misses + 2 ≤ v.stake → Kept places word (set views i (cut v) ++ fresh places 1 ∷ [])
  keeps_cut staked = record {
    small = k.small;
    sound = sound_snoc places (fresh places 1) (set views i (cut v))
        (sound_set places i (cut v) views k.sound ((λ _. (k.sound i v at).0 (omega arith)), omega arith, λ none. absurd (omega arith)))
        ((λ _. refl), omega arith, λ _. refl);
    once = λ x.
        let a = sum_set (claims_of x) views i v (cut v) at in
        let b = sum_snoc (claims_of x) (set views i (cut v)) (fresh places 1) in
        let c = k.once x in omega arith;
    counted =
        let a = sum_set count_of views i v (cut v) at in
        let b = sum_snoc count_of (set views i (cut v)) (fresh places 1) in
        let c = k.counted in omega arith;
    stakes =
        let a = sum_set stake_of views i v (cut v) at in
        let b = sum_snoc stake_of (set views i (cut v)) (fresh places 1) in
        let c = k.stakes in omega arith;
    missed =
        let a = sum_set misses_of views i v (cut v) at in
        let b = sum_snoc misses_of (set views i (cut v)) (fresh places 1) in
        let c = k.missed in omega arith;
  }

  pub keeps_both : (j : ℕ) (u : View) → (j ≡ i → ⊥) → 0 < v.stake → get_elem? (set views i (both v u)) j ≡ some u
      → Kept places word (set (set views i (both v u)) j spent)
  keeps_both j u apart live there =
      let here : get_elem? views j ≡ some u = ⊎_elim (λ (t : (j ≡ i) × (both v u ≡ u)). absurd (apart t.0)) (λ (t : (j ≢ i) × (get_elem? views j ≡ some u)). t.1) (at_set views i j (both v u) u there) in
      let one : IsSound places v = k.sound i v at in
      let two : IsSound places u = k.sound j u here in
      record {
        small = k.small;
        sound = sound_set places j spent (set views i (both v u))
            (sound_set places i (both v u) views k.sound ((λ _. one.0 live), omega arith, λ none. nothing v.claimed u.claimed (one.2 (omega arith)) (two.2 (omega arith))))
            ((λ some. absurd (omega arith)), omega arith, λ _. refl);
        once = λ x.
            let a = sum_set (claims_of x) views i v (both v u) at in
            let b = sum_set (claims_of x) (set views i (both v u)) j u spent there in
            let c = times_append x v.claimed u.claimed in
            let d = k.once x in omega arith;
        counted =
            let a = sum_set count_of views i v (both v u) at in
            let b = sum_set count_of (set views i (both v u)) j u spent there in
            let c = length-append v.claimed u.claimed in
            let d = k.counted in omega arith;
        stakes =
            let a = sum_set stake_of views i v (both v u) at in
            let b = sum_set stake_of (set views i (both v u)) j u spent there in
            let c = k.stakes in omega arith;
        missed =
            let a = sum_set misses_of views i v (both v u) at in
            let b = sum_set misses_of (set views i (both v u)) j u spent there in
            let c = k.missed in omega arith;
      }
    where
      nothing : (xs ys : List ℕ) → xs ≡ [] → ys ≡ [] → xs ++ ys ≡ []
      nothing xs ys a b = rw (a, b) refl
