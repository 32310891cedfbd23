-- The uncertainty that the table prints of the trend of the total holds the root of the exact sum.
use Rattle.std.specs.Prelude.{◌≡◌, ℕ, ◌*◌, Bool, false, ◌||◌, ◌==◌, List, [], ◌∷◌, ◌++◌, Option, option_map, option_and_then, pos, unsigned_abs}
use Rattle.std.specs.List.{filter_map, list_any}
use Rattle.ghg_interval.specs.Bounds.{Inside, between}
use Rattle.ghg_interval.specs.Fractions.{Fraction}
use Rattle.ghg_definitions.specs.Data.{Data, Name, uncertainty}
use Rattle.ghg_definitions.specs.Trials.{Outcomes}
use Rattle.ghg_uncertainty.specs.Totals.{square}
use Rattle.ghg_tables.specs.Analyses.{bounds_text}
use Rattle.ghg_tables.specs.Tables.{emitters}
use Rattle.ghg_trendunc.specs.declared.lines.TrendShare.{TrendShare}
use Rattle.ghg_trendunc.specs.declared.printing.Trend.{Trend}
use Rattle.ghg_trendunc.specs.Lines.{sides_of}
use Rattle.ghg_trendunc.specs.Table.{lacks_sides, share_of, sums_text, trend_of, trendunc_text}
use Rattle.ghg_trendunc.specs.Totals.{sum_of_m}

-- what a line emits in both years, with its percentages, if it has sides
unfoldable pub share_with_sides : Data → Outcomes → Trend → Name → Option TrendShare
share_with_sides m outcomes t name = option_and_then
    (λ p. let share : TrendShare = share_of outcomes t name p in
    option_map (λ _. share) (sides_of t.base_sum t.now_sum share)) (uncertainty m name)

-- the exact sum of what the uncertainties of these lines make of the trend, in squared percent
abbrev pub exact_sum : Data → Outcomes → Trend → Fraction
exact_sum m outcomes t =
    sum_of_m t.base_sum t.now_sum (filter_map (share_with_sides m outcomes t) (emitters m))

-- Two bounds in hundredths of a percent hold the root of a number of squared percents, which is between their
-- squares. A hundredth is 10,000 millionths, and the squares of these are the scaled numbers of an interval.
abbrev pub HoldRoot : (low high : ℕ) → Fraction → Type 0
HoldRoot low high exact =
    Inside (between (pos (square (low * 10_000))) (pos (square (high * 10_000)))) exact

-- After its other lines the text has the sums of both years, and two such bounds.
pub record EndsWithRoot (t : Trend) (exact : Fraction) (text : List ℕ) : Type 0 where
  pub lines : List ℕ
  pub low : ℕ
  pub high : ℕ
  pub ends : text ≡ lines ++ sums_text t.base_sum t.now_sum ++ bounds_text (pos low) (pos high) ++ 10 ∷ []
  pub holds : HoldRoot low high exact

-- a line that emits something has no sides, or the base year sums to zero
abbrev pub is_unknown : Data → Outcomes → Trend → Bool
is_unknown m outcomes t =
    list_any (lacks_sides m outcomes t) (emitters m) || (unsigned_abs t.base_sum == 0)

-- unless the uncertainty of the total is unknown, the text ends with bounds of it, which hold the root of the
-- exact sum
abbrev pub IsSoundTrend : Data → Outcomes → ℕ → List ℕ → Type 0
IsSoundTrend m outcomes year text =
    let t : Trend = trend_of m outcomes year in
    is_unknown m outcomes t ≡ false → EndsWithRoot t (exact_sum m outcomes t) text

-- So does the table of any data and year.
abbrev pub TrendsAreSound : Type 0
TrendsAreSound =
    (m : Data) (outcomes : Outcomes) (year : ℕ) → IsSoundTrend m outcomes year (trendunc_text m outcomes year)
