-- The uncertainty of the trend of the total, in millionths of a percent.
-- Source: 2006 IPCC Guidelines, Volume 1, Chapter 3, Table 3.2, column M.
use Rattle.std.specs.Prelude.{ℕ, ◌≡◌, List, [], ◌∷◌, map, Some, ℤ, pos}
use Rattle.std.specs.List.{sum_by}
use Rattle.ghg_interval.specs.Bounds.{Inside, between}
use Rattle.ghg_interval.specs.Fractions.{Fraction, sum, whole}
use Rattle.ghg_roots.specs.Roots.{IsRootBracket}
use Rattle.ghg_uncertainty.specs.Totals.{square}
use Rattle.ghg_trendunc.specs.declared.totals.Sides.{Sides}
use Rattle.ghg_trendunc.specs.declared.lines.TrendShare.{TrendShare}
use Rattle.ghg_trendunc.specs.Ends.{high_square, low_square}
use Rattle.ghg_trendunc.specs.Lines.{m_of, sides_of}

-- the root of the sum of the squares: low of those of the low sides, and high of those of the high ones
pub record IsTrendTotal (rows : List Sides) (low high : ℕ) : Type 0 where
  pub above_low : ℕ
  pub below_high : ℕ
  pub low_root : IsRootBracket (sum_by low_square rows) low above_low
  pub high_root : IsRootBracket (sum_by high_square rows) below_high high

-- the exact sum of what the lines' uncertainties make of the trend, in squared percent
abbrev pub sum_of_m : (base_sum now_sum : ℤ) → List TrendShare → Fraction
sum_of_m base_sum now_sum [] = whole (pos 0)
sum_of_m base_sum now_sum (s ∷ shares) = sum (m_of base_sum now_sum s) (sum_of_m base_sum now_sum shares)

-- The rows are the sides of the lines.
abbrev pub HaveSides : (base_sum now_sum : ℤ) → List TrendShare → List Sides → Type 0
HaveSides base_sum now_sum shares rows = map (sides_of base_sum now_sum) shares ≡ map Some rows

-- Of whichever lines the rows are the sides, 10^12 times the exact sum is between the squares of both bounds.
abbrev pub HoldsTrend : (rows : List Sides) (low high : ℕ) → Type 0
HoldsTrend rows low high = (base_sum now_sum : ℤ) (shares : List TrendShare) →
    HaveSides base_sum now_sum shares rows →
    Inside (between (pos (square low)) (pos (square high))) (sum_of_m base_sum now_sum shares)

-- The uncertainty of a trend holds the root of the exact sum.
abbrev pub TrendTotalsHoldRoots : Type 0
TrendTotalsHoldRoots = (rows : List Sides) (low high : ℕ) →
    IsTrendTotal rows low high → HoldsTrend rows low high
