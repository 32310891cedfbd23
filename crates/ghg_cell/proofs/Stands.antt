-- Where the rule says that a number stands once, one view has it.
use Rattle.std.proofs.Common.{◌≡◌, ℕ, zero, suc, ◌<◌, ◌≤◌, min, List, [], ◌∷◌, refl, ap, ◌∙◌, arith}
use Rattle.std.proofs.lemmas.Bool.Decides.{nat_tests}
use mathlib.Core.Option.{some, some-injective}
use mathlib.Core.Logic.{dite}
use native.Mathlib.Decide.{ℕ_discrete}
use lib.ListN.{get_elem?}
use Rattle.ghg_cell.specs.declared.view.View.{View}
use Rattle.ghg_cell.specs.BoardRule.{over_all, times, claims_of}
use Rattle.ghg_cell.specs.BoardMachine.{StandsOnce, StandsNowhere, EachPlaceOnce}
use Rattle.ghg_cell.proofs.Views.{sum_at}

-- the one view in which f is 1
Holder : (View → ℕ) → List View → Type 0
Holder f views = (i : ℕ) × (v : View) × (get_elem? views i ≡ some v) × (f v ≡ 1) × ((j : ℕ) (u : View) → get_elem? views j ≡ some u → 0 < f u → j ≡ i)

holder : (f : View → ℕ) (views : List View) → over_all f views ≡ 1 → Holder f views
unfolding Holder
holder f [] one = absurd (omega arith)
holder f (v ∷ vs) one =
    dite (ℕ_discrete (f v) 0)
    (λ none. let h = holder f vs (omega arith) in (suc h.0, h.1, h.2, h.3, λ j u at some_here. later h none j u at some_here))
    (λ some_here. (zero, v, refl, omega arith, λ j u at held. first j u at held some_here))
  where
    first : (j : ℕ) (u : View) → get_elem? (v ∷ vs) j ≡ some u → 0 < f u → (f v ≡ 0 → ⊥) → j ≡ 0
    first zero u at held some_here = refl
    first (suc j) u at held some_here = let a = sum_at f vs j u at in absurd (omega arith)

    later : (h : Holder f vs) → f v ≡ 0 → (j : ℕ) (u : View) → get_elem? (v ∷ vs) j ≡ some u → 0 < f u → j ≡ suc h.0
    later h none zero u at held = let e : f v ≡ f u = ap f (some-injective v u at) in absurd (omega arith)
    later h none (suc j) u at held = ap suc (h.4 j u at held)

pub each_place : EachPlaceOnce
unfolding Holder
each_place places word views k x = (once, nowhere)
  where
    once : x < min word places → StandsOnce x views
    once lower =
        let h = holder (claims_of x) views (k.once x ∙ grind (arith, nat_tests)) in
        let live : 0 < h.1.stake = dite (ℕ_discrete h.1.stake 0)
        (λ none. let gone : times x h.1.claimed ≡ 0 = ap (times x) ((k.sound h.0 h.1 h.2).2 none) in absurd (omega arith))
        (λ some_left. omega arith) in
        (h.0, h.1, h.2, live, h.3, h.4)

    nowhere : min word places ≤ x → StandsNowhere x views
    nowhere over i v at = let a = sum_at (claims_of x) views i v at in let b : over_all (claims_of x) views ≡ 0 = k.once x ∙ grind (arith, nat_tests) in omega arith
