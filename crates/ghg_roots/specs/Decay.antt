-- Decay factors at the scale of intervals, between two whole numbers of parts of a unit.
-- Source: 2006 IPCC Guidelines, Volume 5, Chapter 3. A year leaves the share e^-k of decaying waste, with
-- k = ln 2 / half-life. With a half-life in tenths of a year, 1024 times the share to the power of the tenths
-- is one, since 1024 is two to the power of ten.
use Rattle.std.specs.Prelude.{ℕ, zero, suc, ◌+◌, Bool, if◌then◌else◌, ℤ, pos, ◌+ℤ◌, ◌-ℤ◌, ◌*ℤ◌, ◌≤ℤ◌, ◌<ℤ◌, int_le, int_lt}
use Rattle.std.specs.Int.{int_pow}
use Rattle.ghg_interval.specs.Bounds.{Bounds, unit_scale}
use Rattle.ghg_interval.specs.Rounding.{floor_by, ceil_by}

-- x to the power n at the scale, with each product rounded up
abbrev pub power_up : ℤ → ℕ → ℤ
power_up x zero = pos unit_scale
power_up x (suc n) = ceil_by unit_scale (power_up x n *ℤ x)

-- the same, with each product rounded down
abbrev pub power_down : ℤ → ℕ → ℤ
power_down x zero = pos unit_scale
power_down x (suc n) = floor_by unit_scale (power_down x n *ℤ x)

-- so many times the power
abbrev pub parts_up : (parts exponent : ℕ) → ℤ → ℤ
parts_up parts exponent x = pos parts *ℤ power_up x exponent

abbrev pub parts_down : (parts exponent : ℕ) → ℤ → ℤ
parts_down parts exponent x = pos parts *ℤ power_down x exponent

-- the most parts of a unit that a bracket is computed for
abbrev pub most_parts : ℕ
most_parts = 1_024

-- lo is the last number of which so many powers are within a unit, though each product is rounded up; hi is
-- the first of which so many powers reach a unit, though each product is rounded down
pub record IsDecayBracket (parts exponent : ℕ) (b : Bounds) : Type 0 where
  pub lo_natural : pos 0 ≤ℤ b.lo
  pub hi_natural : pos 0 ≤ℤ b.hi
  pub lo_within : parts_up parts exponent b.lo ≤ℤ pos unit_scale
  pub lo_last : pos unit_scale <ℤ parts_up parts exponent (b.lo +ℤ pos 1)
  pub hi_first : parts_down parts exponent (b.hi -ℤ pos 1) <ℤ pos unit_scale
  pub hi_reaches : pos unit_scale ≤ℤ parts_down parts exponent b.hi

-- the number of which so many powers, not rounded, are one unit is between the bounds
pub record HoldsDecay (parts exponent : ℕ) (b : Bounds) : Type 0 where
  pub lo : (pos parts *ℤ int_pow b.lo exponent) ≤ℤ int_pow (pos unit_scale) exponent
  pub hi : int_pow (pos unit_scale) exponent ≤ℤ (pos parts *ℤ int_pow b.hi exponent)

-- ---- the bracket itself

-- the last number up to one that passes a test, and zero where none does
unfoldable pub last_passing : (ℕ → Bool) → ℕ → ℕ
last_passing passes zero = zero
last_passing passes (suc n) = if passes (suc n) then suc n else last_passing passes n

-- so many powers of the number are within a unit, though each product is rounded up
abbrev pub is_within : (parts exponent : ℕ) → ℕ → Bool
is_within parts exponent x = int_le (parts_up parts exponent (pos x)) (pos unit_scale)

-- so many powers of it are below a unit, with each product rounded down
abbrev pub is_below : (parts exponent : ℕ) → ℕ → Bool
is_below parts exponent x = int_lt (parts_down parts exponent (pos x)) (pos unit_scale)

-- from the last number that is within to the one after the last that is below
unfoldable pub bracket_of : (parts exponent : ℕ) → Bounds
bracket_of parts exponent = record {
  lo = pos (last_passing (is_within parts exponent) unit_scale);
  hi = pos (last_passing (is_below parts exponent) unit_scale + 1);
}

-- the bracket of the yearly decay factor for a half-life in tenths of a year
abbrev pub decay_bounds : ℕ → Bounds
decay_bounds tenths = bracket_of 1_024 tenths
