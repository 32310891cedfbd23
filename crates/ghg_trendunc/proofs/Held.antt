-- The uncertainty of a trend holds the root of the exact sum of squares.
use Rattle.std.proofs.Common.{◌≡◌, ℕ, zero, suc, ◌+◌, ◌*◌, ◌/◌, ◌<◌, ◌≤◌, Bool, true, false, if◌then◌else◌, List, [], ◌∷◌, map, Some, None, subst, arith, mul-le-mul, mul-le-mul_right, div-mul-le_self, ℤ, pos, unsigned_abs}
use Rattle.std.specs.Int.{div_ceil}
use Rattle.std.specs.List.{sum_by}
use Rattle.std.proofs.lemmas.Grind.{div_ceil_times}
use Rattle.std.proofs.lemmas.Int.{ints}
use Rattle.std.proofs.lemmas.List.Sums.{sum_by-cons}
use Rattle.ghg_interval.specs.Bounds.{Inside, between}
use Rattle.ghg_interval.specs.Fractions.{Fraction, product, sum, whole}
use Rattle.ghg_interval.proofs.Containment.{sum_holds, within_holds}
use Rattle.ghg_uncertainty.specs.Totals.{square}
use Rattle.ghg_trendunc.specs.declared.totals.Sides.{Sides}
use Rattle.ghg_trendunc.specs.declared.lines.TrendShare.{TrendShare}
use Rattle.ghg_trendunc.specs.Ends.{high_square, low_square, millionths_down, millionths_up, over, square_sum}
use Rattle.ghg_trendunc.specs.Lines.{bounds_of, change, hundredths, m_of, raised, sides_of}
use Rattle.ghg_trendunc.specs.Totals.{HaveSides, TrendTotalsHoldRoots, sum_of_m}
use Rattle.ghg_trendunc.proofs.Millionths.{up_is}

-- ---- one line: K and J over their denominators

low_holds : (k d j e low lower : ℕ) → low * d ≤ k * 1_000_000 → lower * e ≤ j * 1_000_000 → square_sum low lower * (d * d * (1 * (e * e))) ≤ (k * k * (1 * (e * e)) + 2 * (j * j) * (d * d)) * 1_000_000_000_000
low_holds k d j e low lower h g =
    let first = mul-le-mul_right (e * e) (mul-le-mul h h) in
    let second = mul-le-mul_right (2 * (d * d)) (mul-le-mul g g) in
    omega (arith, first, second)

high_holds : (k d j e high higher : ℕ) → k * 1_000_000 ≤ high * d → j * 1_000_000 ≤ higher * e → (k * k * (1 * (e * e)) + 2 * (j * j) * (d * d)) * 1_000_000_000_000 ≤ square_sum high higher * (d * d * (1 * (e * e)))
high_holds k d j e high higher h g =
    let first = mul-le-mul_right (e * e) (mul-le-mul h h) in
    let second = mul-le-mul_right (2 * (d * d)) (mul-le-mul g g) in
    omega (arith, first, second)

squares_hold : (k d j e : ℕ) (some_d : 0 < d) (some_e : 0 < e) →
    let f : Fraction = record { numerator = pos k; denominator = d; positive = some_d } in
    let g : Fraction = record { numerator = pos j; denominator = e; positive = some_e } in
    Inside (between (pos (square_sum (millionths_down f) (millionths_down g))) (pos (square_sum (millionths_up f) (millionths_up g)))) (sum (product f f) (product (whole (pos 2)) (product g g)))
squares_hold k d j e some_d some_e = rw (up_is k d some_d, up_is j e some_e) (record {
  above = omega (arith, ints, low_holds k d j e (k * 1_000_000 / d) (j * 1_000_000 / e) (div-mul-le_self _ d) (div-mul-le_self _ e));
  below = omega (arith, ints, high_holds k d j e (div_ceil (k * 1_000_000) d) (div_ceil (j * 1_000_000) e) (div_ceil_times _ d some_d).0 (div_ceil_times _ e some_e).0);
})

-- whether the sensitivities are defined or not
row_holds : (k d f j e a : ℕ) →
    let p : Fraction = product (over k d) (hundredths f) in
    let q : Fraction = product (over j e) (hundredths a) in
    Inside (between (pos (square_sum (millionths_down p) (millionths_down q))) (pos (square_sum (millionths_up p) (millionths_up q)))) (sum (product p p) (product (whole (pos 2)) (product q q)))
row_holds k zero f j zero a = squares_hold (0 * f) (1 * 100) (0 * a) (1 * 100) _ _
row_holds k zero f j (suc e) a = squares_hold (0 * f) (1 * 100) (j * a) (suc e * 100) _ _
row_holds k (suc d) f j zero a = squares_hold (k * f) (suc d * 100) (0 * a) (1 * 100) _ _
row_holds k (suc d) f j (suc e) a = squares_hold (k * f) (suc d * 100) (j * a) (suc e * 100) _ _

line_holds : (base_sum now_sum : ℤ) (s : TrendShare) → Inside (between (pos (low_square (bounds_of base_sum now_sum s))) (pos (high_square (bounds_of base_sum now_sum s)))) (m_of base_sum now_sum s)
line_holds base_sum now_sum s = row_holds (100 * change base_sum now_sum s) (unsigned_abs base_sum * raised base_sum s) s.factor (unsigned_abs s.now) (unsigned_abs base_sum) s.activity

-- ---- all lines

some_sides : (beyond : Bool) (x y : Sides) → (if beyond then None else Some x) ≡ Some y → x ≡ y
some_sides true x y e = absurd (cc)
some_sides false x y e = cc

are_bounds : (base_sum now_sum : ℤ) (s : TrendShare) (x : Sides) → sides_of base_sum now_sum s ≡ Some x → bounds_of base_sum now_sum s ≡ x
unfolding sides_of
are_bounds base_sum now_sum s x e = some_sides _ (bounds_of base_sum now_sum s) x e

all_hold : (base_sum now_sum : ℤ) (shares : List TrendShare) (rows : List Sides) → HaveSides base_sum now_sum shares rows → Inside (between (pos (sum_by low_square rows)) (pos (sum_by high_square rows))) (sum_of_m base_sum now_sum shares)
all_hold base_sum now_sum [] [] e = record { above = omega (arith, ints); below = omega (arith, ints) }
all_hold base_sum now_sum [] (x ∷ rows) e = absurd (cc)
all_hold base_sum now_sum (s ∷ shares) [] e = absurd (cc)
all_hold base_sum now_sum (s ∷ shares) (x ∷ rows) e =
    let first : sides_of base_sum now_sum s ≡ Some x = cc in
    let rest : map (sides_of base_sum now_sum) shares ≡ map Some rows = cc in
    let P : Sides → Type 0 = λ y. Inside (between (pos (low_square y)) (pos (high_square y))) (m_of base_sum now_sum s) in
    let row : P x = subst P (are_bounds base_sum now_sum s x first) (line_holds base_sum now_sum s) in
    rw (sum_by-cons low_square x rows, sum_by-cons high_square x rows)
    (sum_holds (between (pos (low_square x)) (pos (high_square x))) (between (pos (sum_by low_square rows)) (pos (sum_by high_square rows))) (m_of base_sum now_sum s) (sum_of_m base_sum now_sum shares) row (all_hold base_sum now_sum shares rows rest))

pub trends_hold : TrendTotalsHoldRoots
trends_hold rows low high is base_sum now_sum shares e =
    within_holds (between (pos (sum_by low_square rows)) (pos (sum_by high_square rows))) (between (pos (square low)) (pos (square high))) (record {
      lo = omega (arith, ints, is.low_root.below);
      hi = omega (arith, ints, is.high_root.above);
    }) (sum_of_m base_sum now_sum shares) (all_hold base_sum now_sum shares rows e)
