-- The propagation of errors in products and sums of uncertain amounts, in hundredths of a percent.
-- Source: 2006 IPCC Guidelines, Volume 1, Chapter 3, Equations 3.1 and 3.2.
use Rattle.std.specs.Prelude.{ℕ, ◌≡◌, ◌≢◌, ◌+◌, ◌*◌, ◌≤◌, List, ℤ, pos, ◌+ℤ◌, unsigned_abs}
use Rattle.std.specs.List.{fold, sum_by}
use Rattle.ghg_interval.specs.Rounding.{floor_by, ceil_by}
use Rattle.ghg_roots.specs.Roots.{IsRootBracket}
use Rattle.ghg_units.specs.declared.uncertainty.TheConstants.{GREATEST_UNCERTAINTY}
use Rattle.ghg_uncertainty.specs.declared.Share.{Share}
use Rattle.ghg_uncertainty.specs.declared.TotalUncertainty.{TotalUncertainty}
use Rattle.ghg_uncertainty.specs.declared.TotalUncertainty.TheVariants.{Bracket, Undefined}

-- the greatest amount, in tonnes
abbrev pub amount_limit : ℕ
amount_limit = 1_000_000_000_000

pub record IsShare (s : Share) : Type 0 where
  pub tonnes : unsigned_abs s.tonnes ≤ amount_limit
  pub activity : s.activity ≤ GREATEST_UNCERTAINTY
  pub factor : s.factor ≤ GREATEST_UNCERTAINTY

abbrev pub square : ℕ → ℕ
square n = n * n

-- the square of a product's uncertainty
abbrev pub square_sum : (activity factor : ℕ) → ℕ
square_sum activity factor = square activity + square factor

-- the square of an amount times its uncertainty
abbrev pub variance : Share → ℕ
variance s = square_sum s.activity s.factor * square (unsigned_abs s.tonnes)

-- what both are at most
abbrev pub largest_square_sum : ℕ
largest_square_sum = 20_000_000_000

abbrev pub largest_variance : ℕ
largest_variance = 20_000_000_000_000_000_000_000_000_000_000_000

-- the sum of the amounts
abbrev pub net : List Share → ℤ
net rows = fold (λ sum s. sum +ℤ s.tonnes) (pos 0) rows

-- the sum of their variances
abbrev pub spread : List Share → ℕ
spread rows = sum_by variance rows

-- low and high are the bracket of the root of n, over a size, rounded outward
pub record IsRootOver (size n low high : ℕ) : Type 0 where
  pub root_low : ℕ
  pub root_high : ℕ
  pub root : IsRootBracket n root_low root_high
  pub low_is : pos low ≡ floor_by size (pos root_low)
  pub high_is : pos high ≡ ceil_by size (pos root_high)

-- the root of the spread over the magnitude of the sum; undefined just where the sum is zero
abbrev pub IsTotal : List Share → TotalUncertainty → Type 0
IsTotal rows (Bracket low high) =
    (net rows ≢ pos 0) × IsRootOver (unsigned_abs (net rows)) (spread rows) low high
IsTotal rows Undefined = net rows ≡ pos 0

-- the spread is between the squares of both bounds times the magnitude of the sum
abbrev pub HoldsTotal : List Share → TotalUncertainty → Type 0
HoldsTotal rows (Bracket low high) =
    let size : ℕ = unsigned_abs (net rows) in
    (square (low * size) ≤ spread rows) × (spread rows ≤ square (high * size))
HoldsTotal rows Undefined = Unit {0}
