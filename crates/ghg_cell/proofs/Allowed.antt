-- Each step on the table is allowed by the rule.
use Rattle.std.proofs.Common.{◌≡◌, ℕ, ◌+◌, ◌%◌, ◌^◌, ◌<◌, ◌≤◌, Bool, true, false, cond, ltb, List, [], ◌∷◌, ◌++◌, slice_index, slice_set, set, refl, sym, ap, subst, arith}
use Rattle.std.proofs.lemmas.Bool.{ltb-true, ltb-false}
use mathlib.Core.Option.{some}
use lib.ListN.{get_elem?}
use Rattle.atomic_table.specs.Table.{State, keeps, Allows, Splits, Joins, opening}
use Rattle.ghg_cell.specs.declared.view.View.{View}
use Rattle.ghg_cell.specs.BoardRule.{count_of, misses_of, stake_of, fresh, cut, with_place, with_miss, both, spent, Kept}
use Rattle.ghg_cell.specs.Boards.{IsBoard, Claims}
use Rattle.ghg_cell.proofs.Views.{sum_at, sum_below}
use Rattle.ghg_cell.proofs.Keeps.{keeps_opening, keeps_place, keeps_miss, keeps_cut, keeps_both}

-- the word is at most `places` and 64 more, so it does not wrap
fits : (places word : ℕ) (views : List View) → Kept places word views → (word + 1) % 2 ^ 64 ≡ word + 1
fits places word views k =
    let a = sum_below misses_of stake_of views (λ i v at. (k.sound i v at).1) in
    let m = k.missed in let t = k.stakes in let p = k.small in grind arith

kept_claim : (places word : ℕ) (views : List View) (id : ℕ) (v : View) → Kept places word views → get_elem? views id ≡ some v → v.misses < v.stake
    → (b : Bool) → ltb word places ≡ b → Kept places (word + 1) (set views id (cond b (with_place v word) (with_miss v)))
kept_claim places word views id v k at staked true lower = keeps_place places word views id v k at staked (ltb-true _ _ lower)
kept_claim places word views id v k at staked false over = keeps_miss places word views id v k at staked (ltb-false _ _ over)

module _ {S : Type 0} (places : ℕ) where
  pub opens : places ≤ 1000000000 → IsBoard {S = S} places (opening (0 ∷ []) [] (fresh places 64))
  opens small = record { word = 0; one = refl; kept = keeps_opening places small }

  pub splits : (id : ℕ) (v : View) → v.misses + 2 ≤ v.stake → v.places ≡ places → Splits (IsBoard {S = S} places) id v (cut v) (fresh v.places 1)
  splits id v staked here s b at = record {
    word = b.word;
    one = b.one;
    kept = subst (λ (z : ℕ). Kept places b.word (set s.views id (cut v) ++ fresh z 1 ∷ [])) (sym here) (keeps_cut places b.word s.views id v b.kept at staked);
  }

  pub joins : (id : ℕ) (v : View) (other : ℕ) (u : View) → 0 < v.stake → Joins (IsBoard {S = S} places) id v other u (both v u) spent
  joins id v other u live s b at apart there = record {
    word = b.word;
    one = b.one;
    kept = keeps_both places b.word s.views id v b.kept at other u apart live there;
  }

  -- the rule after a claim, where the words were ws
  abbrev After : State S View → ℕ → View → List ℕ → Type 0
  After s id v ws = IsBoard {S = S} places (record {
    words = slice_set ws 0 ((slice_index ws 0 + 1) % 2 ^ 64);
    homes = s.homes;
    views = slice_set s.views id (cond (ltb (slice_index ws 0) v.places) (with_place v (slice_index ws 0)) (with_miss v));
  })

  after_one : (s : State S View) (id : ℕ) (v : View) (word : ℕ) → Kept places word s.views → get_elem? s.views id ≡ some v → v.misses < v.stake → v.places ≡ places
      → After s id v (word ∷ [])
  after_one s id v word k at staked here = record {
    word = word + 1;
    one = ap (λ n. n ∷ []) (fits places word s.views k);
    kept = subst (λ (z : ℕ). Kept places (word + 1) (set s.views id (cond (ltb word z) (with_place v word) (with_miss v)))) (sym here)
        (kept_claim places word s.views id v k at staked (ltb word places) refl);
  }

  pub claims : (slots id : ℕ) (v : View) (held : List (ℕ × S)) → v.misses < v.stake → v.places ≡ places
      → Allows (IsBoard {S = S} places) slots id (v, held) 0 (λ n. (n + 1) % 2 ^ 64) (Claims (v, held))
  claims slots id v held staked here s b homes at fit = (
    cond (ltb (slice_index s.words 0) v.places) (with_place v (slice_index s.words 0)) (with_miss v),
    keeps,
    tt,
    subst (After s id v) (sym b.one) (after_one s id v b.word b.kept at staked here),
    (
      refl,
      refl,
      let few = sum_at count_of s.views id v at in let all = b.kept.counted in
          let is : slice_index s.words 0 ≡ b.word = ap (λ (ws : List ℕ). slice_index ws 0) b.one in omega arith,
    ),
  )
