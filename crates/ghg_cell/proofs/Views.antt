-- Sums over the views of all passes, and how often a number stands in a list.
use Rattle.std.proofs.Common.{◌≡◌, ℕ, zero, suc, ◌+◌, ◌≤◌, cond, eqb, List, [], ◌∷◌, ◌++◌, set, refl, sym, ap, arith}
use Rattle.std.proofs.lemmas.Bool.Decides.{nat_tests}
use mathlib.Core.Option.{some, some-injective, some-ne-none}
use lib.ListN.{get_elem?}
use Rattle.ghg_cell.specs.declared.view.View.{View}
use Rattle.ghg_cell.specs.BoardRule.{over_all, times, once_below}

pub sum_set : (f : View → ℕ) (vs : List View) (i : ℕ) (v w : View) → get_elem? vs i ≡ some v → over_all f (set vs i w) + f v ≡ over_all f vs + f w
sum_set f [] i v w at = absurd (some-ne-none v (sym at))
sum_set f (u ∷ us) zero v w at = let e : f u ≡ f v = ap f (some-injective u v at) in omega arith
sum_set f (u ∷ us) (suc i) v w at = let e = sum_set f us i v w at in omega arith

pub sum_snoc : (f : View → ℕ) (vs : List View) (v : View) → over_all f (vs ++ v ∷ []) ≡ over_all f vs + f v
sum_snoc f [] v = omega arith
sum_snoc f (u ∷ us) v = omega (arith, sum_snoc f us v)

pub sum_at : (f : View → ℕ) (vs : List View) (i : ℕ) (v : View) → get_elem? vs i ≡ some v → f v ≤ over_all f vs
sum_at f [] i v at = absurd (some-ne-none v (sym at))
sum_at f (u ∷ us) zero v at = let e : f u ≡ f v = ap f (some-injective u v at) in omega arith
sum_at f (u ∷ us) (suc i) v at = let e = sum_at f us i v at in omega arith

-- where all of g lies in the view i, and f is 0 where g is, all of f lies there too
pub sum_alone : (f g : View → ℕ) (vs : List View) (i : ℕ) (v : View) → get_elem? vs i ≡ some v → over_all g vs ≡ g v
    → ((j : ℕ) (u : View) → get_elem? vs j ≡ some u → g u ≡ 0 → f u ≡ 0) → over_all f vs ≡ f v
sum_alone f g [] i v at whole none_else = absurd (some-ne-none v (sym at))
sum_alone f g (u ∷ us) zero v at whole none_else = let e : f u ≡ f v = ap f (some-injective u v at) in
    let d : g u ≡ g v = ap g (some-injective u v at) in
    let z : over_all f us ≡ 0 = nothing us (omega arith) (λ j w a. none_else (suc j) w a) in omega arith
  where
    nothing : (ws : List View) → over_all g ws ≡ 0 → ((j : ℕ) (w : View) → get_elem? ws j ≡ some w → g w ≡ 0 → f w ≡ 0) → over_all f ws ≡ 0
    nothing [] e none_here = refl
    nothing (w ∷ ws) e none_here = let a : f w ≡ 0 = none_here zero w refl (omega arith) in
        let b = nothing ws (omega arith) (λ j x at. none_here (suc j) x at) in omega arith
sum_alone f g (u ∷ us) (suc i) v at whole none_else =
    let b = sum_at g us i v at in
    let a : f u ≡ 0 = none_else zero u refl (omega arith) in
    let e = sum_alone f g us i v at (omega arith) (λ j w a. none_else (suc j) w a) in omega arith

pub times_append : (x : ℕ) (xs ys : List ℕ) → times x (xs ++ ys) ≡ times x xs + times x ys
times_append x [] ys = omega arith
times_append x (y ∷ xs) ys = omega (arith, times_append x xs ys)

pub once_one_more : (x n : ℕ) → once_below x (n + 1) ≡ once_below x n + cond (eqb n x) 1 0
once_one_more x n = grind (arith, nat_tests)

pub sum_below : (f g : View → ℕ) (vs : List View) → ((i : ℕ) (v : View) → get_elem? vs i ≡ some v → f v ≤ g v) → over_all f vs ≤ over_all g vs
sum_below f g [] each = omega arith
sum_below f g (u ∷ us) each = let a : f u ≤ g u = each zero u refl in let b = sum_below f g us (λ i v at. each (suc i) v at) in omega arith
