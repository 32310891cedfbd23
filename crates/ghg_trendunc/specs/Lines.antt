-- What a line's uncertainties make of the trend of the total, for the sums of both years over all lines.
-- Source: 2006 IPCC Guidelines, Volume 1, Chapter 3, Table 3.2, columns I to M. J is here the type B
-- sensitivity times the uncertainty of the activity data: L is J times the square root of two.
use Rattle.std.specs.Prelude.{ℕ, ◌*◌, ◌≤◌, ◌==◌, ◌||◌, nat_lt, if◌then◌else◌, Bool, Option, Some, None, ℤ, pos, ◌+ℤ◌, ◌-ℤ◌, ◌*ℤ◌, unsigned_abs}
use Rattle.ghg_interval.specs.Fractions.{Fraction, product, sum, whole}
use Rattle.ghg_units.specs.declared.uncertainty.TheConstants.{GREATEST_UNCERTAINTY}
use Rattle.ghg_uncertainty.specs.Totals.{amount_limit}
use Rattle.ghg_trendunc.specs.declared.totals.Sides.{Sides}
use Rattle.ghg_trendunc.specs.declared.lines.TrendShare.{TrendShare}
use Rattle.ghg_trendunc.specs.Ends.{millionths_down, millionths_up, over, side_limit}

pub record IsTrendShare (s : TrendShare) : Type 0 where
  pub base : unsigned_abs s.base ≤ amount_limit
  pub now : unsigned_abs s.now ≤ amount_limit
  pub activity : s.activity ≤ GREATEST_UNCERTAINTY
  pub factor : s.factor ≤ GREATEST_UNCERTAINTY

-- the greatest sum of a year, in tonnes
abbrev pub sum_limit : ℕ
sum_limit = 1_100_000_000_000

-- a number of hundredths
abbrev pub hundredths : ℕ → Fraction
hundredths n = over n 100

-- how far the line's change is from its part in the change of the sum, times the sum of the base year
abbrev pub change : (base_sum now_sum : ℤ) → TrendShare → ℕ
change base_sum now_sum s = unsigned_abs (s.now *ℤ base_sum -ℤ s.base *ℤ now_sum)

-- a hundred times the sum of the base year where the line has one percent more
abbrev pub raised : (base_sum : ℤ) → TrendShare → ℕ
raised base_sum s = unsigned_abs (pos 100 *ℤ base_sum +ℤ s.base)

-- type A sensitivity: the change of the trend, in percentage points, when both years of the line rise by one
-- percent
abbrev pub type_a : (base_sum now_sum : ℤ) → TrendShare → Fraction
type_a base_sum now_sum s =
    over (100 * change base_sum now_sum s) (unsigned_abs base_sum * raised base_sum s)

-- type B sensitivity: the line's part in the sum of the base year
abbrev pub type_b : (base_sum : ℤ) → TrendShare → Fraction
type_b base_sum s = over (unsigned_abs s.now) (unsigned_abs base_sum)

-- type A sensitivity times the percentage of the emission factor
abbrev pub k_of : (base_sum now_sum : ℤ) → TrendShare → Fraction
k_of base_sum now_sum s = product (type_a base_sum now_sum s) (hundredths s.factor)

-- type B sensitivity times the percentage of the activity data
abbrev pub j_of : (base_sum : ℤ) → TrendShare → Fraction
j_of base_sum s = product (type_b base_sum s) (hundredths s.activity)

-- the square of K, and twice that of J
abbrev pub m_of : (base_sum now_sum : ℤ) → TrendShare → Fraction
m_of base_sum now_sum s =
    let k : Fraction = k_of base_sum now_sum s in
    let j : Fraction = j_of base_sum s in
    sum (product k k) (product (whole (pos 2)) (product j j))

-- ---- sides

abbrev pub bounds_of : (base_sum now_sum : ℤ) → TrendShare → Sides
bounds_of base_sum now_sum s = record {
  k_low = millionths_down (k_of base_sum now_sum s);
  k_high = millionths_up (k_of base_sum now_sum s);
  j_low = millionths_down (j_of base_sum s);
  j_high = millionths_up (j_of base_sum s);
}

-- a sensitivity would be over zero
abbrev pub is_undefined : (base_sum : ℤ) → TrendShare → Bool
is_undefined base_sum s = (unsigned_abs base_sum == 0) || (raised base_sum s == 0)

-- a side is above the limit
abbrev pub are_beyond : Sides → Bool
are_beyond s = nat_lt side_limit s.k_high || nat_lt side_limit s.j_high

-- the sides of a line, where its sensitivities are defined and no side is above the limit
unfoldable pub sides_of : (base_sum now_sum : ℤ) → TrendShare → Option Sides
sides_of base_sum now_sum s =
    if is_undefined base_sum s || are_beyond (bounds_of base_sum now_sum s) then None
    else Some (bounds_of base_sum now_sum s)
