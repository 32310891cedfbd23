-- What pairs are ranked by: their level, and what they add to the trend.
-- Source: 2006 IPCC Guidelines, Volume 1, Chapter 4, Equations 4.1 to 4.3. A pair's share is its size over a
-- denominator that all pairs have in common.
use Rattle.std.specs.Prelude.{ℕ, ◌≡◌, ◌≢◌, ◌+◌, ◌*◌, List, ℤ, pos, ◌+ℤ◌, ◌-ℤ◌, ◌*ℤ◌, unsigned_abs}
use Rattle.std.specs.List.{fold, sum_by}
use Rattle.ghg_keycat.specs.declared.Pair.{Pair}
use Rattle.ghg_keycat.specs.declared.TrendRows.{TrendRows}
use Rattle.ghg_keycat.specs.declared.TrendRows.TheVariants.{Rows, Undefined}
use Rattle.ghg_keycat.specs.Ranking.{IsRanking}

-- both amounts without their signs
abbrev pub gross : Pair → ℕ
gross p = unsigned_abs p.base + unsigned_abs p.now

-- the greatest sum of them
abbrev pub gross_limit : ℕ
gross_limit = 10_000_000_000_000_000

-- the magnitude in the year that is assessed
abbrev pub level_size : Pair → ℕ
level_size p = unsigned_abs p.now

-- the sum of the base year, and of the year that is assessed
abbrev pub base_sum : List Pair → ℤ
base_sum rows = fold (λ sum p. sum +ℤ p.base) (pos 0) rows

abbrev pub now_sum : List Pair → ℤ
now_sum rows = fold (λ sum p. sum +ℤ p.now) (pos 0) rows

-- the sum of the base year's magnitudes
abbrev pub base_size : List Pair → ℕ
base_size rows = sum_by (λ p. unsigned_abs p.base) rows

-- how far the pair's change is from its part in the change of the sum, for the sums of both years
abbrev pub trend_size : (base now : ℤ) → Pair → ℕ
trend_size base now p =
    let own : ℤ = (p.now -ℤ p.base) *ℤ pos (unsigned_abs base) in
    let part : ℤ = (now -ℤ base) *ℤ pos (unsigned_abs p.base) in
    unsigned_abs (own -ℤ part)

-- the ranking by the trend, and its denominator; undefined just where the base year sums to zero
abbrev pub IsTrend : List Pair → TrendRows → Type 0
IsTrend rows (Rows keys denominator) =
    (base_sum rows ≢ pos 0)
    × IsRanking (trend_size (base_sum rows) (now_sum rows)) rows keys.items
    × (denominator ≡ base_size rows * unsigned_abs (base_sum rows))
IsTrend rows Undefined = base_sum rows ≡ pos 0
