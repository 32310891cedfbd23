-- The bracket of a root is the root rounded down and rounded up, and that of a total is small.
use Rattle.std.proofs.Common.{◌≡◌, ℕ, zero, suc, ◌+◌, ◌*◌, ◌<◌, ◌≤◌, Bool, true, false, nat_le, ◌==◌, if◌then◌else◌, List, length, refl, sym, ap, subst, ◌∙◌, arith, mul-le-mul, mul-le-mul_right, unsigned_abs}
use Rattle.std.proofs.Math.Nat.{div-le_self}
use Rattle.std.proofs.lemmas.Bool.{leb-true, leb-false, eqb-true, eqb-false}
use Rattle.std.specs.Int.{div_ceil}
use Rattle.std.specs.List.{All}
use Rattle.std.proofs.lemmas.List.Elements.{All-weaker}
use Rattle.std.proofs.lemmas.List.Sums.{sum_by-le}
use Rattle.ghg_cell.specs.declared.totals.TheConstants.{MOST_PARTS}
use Rattle.ghg_roots.specs.Roots.{IsRootBracket}
use Rattle.ghg_units.specs.declared.uncertainty.TheConstants.{GREATEST_UNCERTAINTY}
use Rattle.ghg_uncertainty.specs.declared.Share.{Share}
use Rattle.ghg_uncertainty.specs.declared.TotalUncertainty.TheVariants.{Bracket, Undefined}
use Rattle.ghg_uncertainty.specs.Brackets.{BracketsAreRoots, TotalsAreSmall, high_root, low_root, root_up_to}
use Rattle.ghg_uncertainty.specs.Totals.{IsShare, amount_limit, largest_square_sum, largest_variance, net, spread, square, square_sum, variance}
use Rattle.ghg_uncertainty.proofs.Rounded.{ceil_natural, some_magnitude}
use native.Mathlib.Decide.{dec_lt}
use Prim.{yes, no}

squares_rise : (a b : ℕ) → a ≤ b → square a ≤ square b
squares_rise a b h = mul-le-mul h h

-- a square that is no more than another's is that of no larger number
roots_rise : (a b : ℕ) → square a ≤ square b → a ≤ b
roots_rise a b h = elim (dec_lt b a) [
  | yes l ↦ absurd (let more : square (suc b) ≤ square a = squares_rise (suc b) a l in omega (arith, h, more))
  | no not ↦ omega (arith, not)
]

-- r is the greatest up to a limit whose square is no more than n
pub record IsRootUpTo (n most r : ℕ) : Type 0 where
  pub below : square r ≤ n
  pub greatest : (k : ℕ) → k ≤ most → square k ≤ n → k ≤ r

root_by : (n most r : ℕ) (b : Bool) → nat_le (square (suc most)) n ≡ b → IsRootUpTo n most r → IsRootUpTo n (suc most) (if b then suc most else r)
root_by n most r true e rest = record { below = leb-true _ _ e; greatest = λ k h s. h }
root_by n most r false e rest =
    let above : n < square (suc most) = leb-false (square (suc most)) n e in
    record {
      below = rest.below;
      greatest = λ k h s. elim (dec_lt k (suc most)) [
        | yes l ↦ rest.greatest k (omega (arith, l)) s
        | no not ↦ absurd (let more : square (suc most) ≤ square k = squares_rise (suc most) k (omega (arith, not)) in omega (arith, above, more, s))
      ];
    }

root_is : (n most : ℕ) → IsRootUpTo n most (root_up_to n most)
unfolding root_up_to
root_is n zero = record { below = omega arith; greatest = λ k h s. omega (arith, h) }
root_is n (suc most) = root_by n most (root_up_to n most) (nat_le (square (suc most)) n) refl (root_is n most)

within_itself : (k n : ℕ) → square k ≤ n → k ≤ n
within_itself zero n h = omega arith
within_itself (suc k) n h = omega (arith, h)

low_is : (n low high : ℕ) → IsRootBracket n low high → low ≡ low_root n
unfolding low_root
low_is n low high bracket =
    let root = root_is n n in
    let most : low ≤ root_up_to n n = root.greatest low (within_itself low n bracket.below) bracket.below in
    let least : root_up_to n n ≤ low = elim (dec_lt low (root_up_to n n)) [
      | yes l ↦ absurd (
          let next : square (suc low) ≤ square (root_up_to n n) = squares_rise (suc low) (root_up_to n n) l in
          let top : square high ≤ square (suc low) = squares_rise high (suc low) (omega (arith, bracket.close)) in
          let exact : n ≡ square (suc low) = omega (arith, next, top, root.below, bracket.above) in
          let same : low ≡ high = bracket.meets.1 (suc low, sym exact) in
          let above : n ≤ square low = subst (λ (k : ℕ). n ≤ square k) (sym same) bracket.above in
          omega (arith, above, exact))
      | no not ↦ omega (arith, not)
    ] in
    omega (arith, most, least)

high_by : (n low high : ℕ) → IsRootBracket n low high → (b : Bool) → (square low == n) ≡ b → high ≡ (if b then low else low + 1)
high_by n low high bracket true e = sym (bracket.meets.1 (low, eqb-true _ _ e))
high_by n low high bracket false e =
    let least : low ≤ high = roots_rise low high (omega (arith, bracket.below, bracket.above)) in
    elim (dec_lt low high) [
      | yes l ↦ omega (arith, l, bracket.close)
      | no not ↦ absurd (
          let same : low ≡ high = omega (arith, not, least) in
          let root = bracket.meets.0 same in
          let above : n ≤ square low = subst (λ (k : ℕ). n ≤ square k) (sym same) bracket.above in
          eqb-false (square low) n e (omega (arith, above, bracket.below)))
    ]

pub roots_are : BracketsAreRoots
unfolding high_root
roots_are n low high bracket =
    let same : low ≡ low_root n = low_is n low high bracket in
    (same, subst (λ (k : ℕ). high ≡ (if square k == n then k else k + 1)) same (high_by n low high bracket (square low == n) refl))

-- The root rounded down and rounded up is a bracket.
bracket_by : (n low : ℕ) → IsRootUpTo n n low → (b : Bool) → (square low == n) ≡ b
    → IsRootBracket n low (if b then low else low + 1)
bracket_by n low root true e =
    let exact : square low ≡ n = eqb-true _ _ e in
    record {
      below = root.below;
      above = omega (arith, exact);
      close = omega arith;
      meets = (λ _. (low, exact), λ _. refl);
    }
bracket_by n low root false e = record {
  below = root.below;
  above = elim (dec_lt (square (low + 1)) n) [
    | yes l ↦ absurd (let more : low + 1 ≤ low = root.greatest (low + 1) (within_itself (low + 1) n (omega (arith, l))) (omega (arith, l)) in omega (arith, more))
    | no not ↦ omega (arith, not)
  ];
  close = omega arith;
  meets = (
    λ same. absurd (omega (arith, same)),
    λ is. absurd (
        let most : is.0 ≤ low = root.greatest is.0 (within_itself is.0 n (omega (arith, is.1))) (omega (arith, is.1)) in
        let least : square is.0 ≤ square low = squares_rise is.0 low most in
        eqb-false (square low) n e (omega (arith, is.1, least, root.below))),
  );
}

pub root_brackets : (n : ℕ) → IsRootBracket n (low_root n) (high_root n)
unfolding low_root high_root
root_brackets n = bracket_by n (root_up_to n n) (root_is n n) (square (root_up_to n n) == n) refl

-- ---- how large the bounds of a total are

small_variance : (s : Share) → IsShare s → variance s ≤ largest_variance
small_variance s is =
    let activity : square s.activity ≤ square GREATEST_UNCERTAINTY = squares_rise s.activity GREATEST_UNCERTAINTY is.activity in
    let factor : square s.factor ≤ square GREATEST_UNCERTAINTY = squares_rise s.factor GREATEST_UNCERTAINTY is.factor in
    let tonnes : square (unsigned_abs s.tonnes) ≤ square amount_limit = squares_rise (unsigned_abs s.tonnes) amount_limit is.tonnes in
    let sum : square_sum s.activity s.factor ≤ largest_square_sum = omega (arith, activity, factor) in
    let all : variance s ≤ largest_square_sum * square amount_limit = mul-le-mul sum tonnes in
    omega (arith, all)

small_spread : (rows : List Share) → length rows ≤ MOST_PARTS → All IsShare rows → spread rows ≤ MOST_PARTS * largest_variance
small_spread rows few shares =
    let each = sum_by-le variance largest_variance rows (All-weaker IsShare (λ s. variance s ≤ largest_variance) small_variance rows shares) in
    omega (arith, each, mul-le-mul_right largest_variance few)

-- the square of a number that is no more than the spread of a total
root_within : (root : ℕ) (rows : List Share) → length rows ≤ MOST_PARTS → All IsShare rows → square root ≤ spread rows → root ≤ 10_000_000_000_000_000_000
root_within root rows few shares h = roots_rise root 10_000_000_000_000_000_000 (omega (arith, h, small_spread rows few shares))

pub totals_small : TotalsAreSmall
totals_small rows (Bracket low high) few shares is =
    let over = is.1 in
    let size : ℕ = unsigned_abs (net rows) in
    let root : over.root_low ≤ 10_000_000_000_000_000_000 = root_within over.root_low rows few shares over.root.below in
    let down : low ≤ over.root_low = rw (ap unsigned_abs over.low_is) (div-le_self over.root_low size) in
    let positive : 0 < size = some_magnitude (net rows) is.0 in
    let up : high ≡ div_ceil over.root_high size = ap unsigned_abs (over.high_is ∙ sym (ceil_natural size over.root_high positive)) in
    (omega (arith, root, down), omega (arith, root, over.root.close, up, div-le_self over.root_high size))
totals_small rows Undefined few shares is = tt
