-- Fractions of a percent between whole numbers of millionths, and the squares of these.
use Rattle.std.specs.Prelude.{ℕ, zero, suc, ◌+◌, ◌*◌, ◌≤◌, pos, ◌*ℤ◌, unsigned_abs}
use Rattle.std.proofs.Common.{zero-lt-suc}
use Rattle.ghg_interval.specs.Fractions.{Fraction, whole}
use Rattle.ghg_interval.specs.Rounding.{ceil_by, floor_by}
use Rattle.ghg_uncertainty.specs.Totals.{square}
use Rattle.ghg_trendunc.specs.declared.totals.Sides.{Sides}

-- n over d, for a d that is not zero
abbrev pub over : (n d : ℕ) → Fraction
over n zero = whole (pos 0)
over n (suc d) = record { numerator = pos n; denominator = suc d; positive = zero-lt-suc d }

-- in millionths, rounded down
abbrev pub millionths_down : Fraction → ℕ
millionths_down f = unsigned_abs (floor_by f.denominator (f.numerator *ℤ pos 1_000_000))

-- in millionths, rounded up
abbrev pub millionths_up : Fraction → ℕ
millionths_up f = unsigned_abs (ceil_by f.denominator (f.numerator *ℤ pos 1_000_000))

-- ---- sides

-- the greatest side
abbrev pub side_limit : ℕ
side_limit = 1_000_000_000_000

pub record AreOrdered (s : Sides) : Type 0 where
  pub k : s.k_low ≤ s.k_high
  pub j : s.j_low ≤ s.j_high

pub record AreSides (s : Sides) : Type 0 where
  pub ordered : AreOrdered s
  pub k_small : s.k_high ≤ side_limit
  pub j_small : s.j_high ≤ side_limit

-- the square of k, and twice that of j
abbrev pub square_sum : (k j : ℕ) → ℕ
square_sum k j = square k + 2 * square j

-- what it is at most
abbrev pub largest_square : ℕ
largest_square = 3_000_000_000_000_000_000_000_000

abbrev pub low_square : Sides → ℕ
low_square s = square_sum s.k_low s.j_low

abbrev pub high_square : Sides → ℕ
high_square s = square_sum s.k_high s.j_high
