-- The text of the table of trend uncertainty, as a function of the data, the outcomes of their nodes, and the
-- year.
-- Source: 2006 IPCC Guidelines, Volume 1, Chapter 3, Table 3.2.
use Rattle.std.specs.Prelude.{ℕ, ◌*◌, ◌≤◌, Bool, ◌&&◌, ◌||◌, ◌==◌, not, is_none, if◌then◌else◌, List, [], ◌∷◌, ◌++◌, codes, Option, Some, None, option_and_then, ℤ, pos, ◌+ℤ◌, unsigned_abs}
use Rattle.std.specs.List.{filter_map, flat_map, fold, list_any, sum_by}
use Rattle.ghg_categories.specs.declared.category.Category.{Category}
use Rattle.ghg_equations.specs.declared.quantity.Gas.{Gas}
use Rattle.ghg_interval.specs.Rounding.{ceil_by, floor_by}
use Rattle.ghg_definitions.specs.Data.{Data, Name, span, uncertainty}
use Rattle.ghg_definitions.specs.Trials.{Outcomes}
use Rattle.ghg_uncertainty.specs.Brackets.{high_root, low_root}
use Rattle.ghg_uncertainty.specs.Totals.{square}
use Rattle.ghg_tables.specs.Analyses.{bounds_text, emission_words}
use Rattle.ghg_tables.specs.Sums.{emission}
use Rattle.ghg_tables.specs.Tables.{base_year, emitters, line_tonnes}
use Rattle.ghg_tables.specs.Texts.{field, tonnes_text}
use Rattle.ghg_trendunc.specs.declared.lines.TrendShare.{TrendShare}
use Rattle.ghg_trendunc.specs.declared.printing.Trend.{Trend}
use Rattle.ghg_trendunc.specs.declared.totals.Sides.{Sides}
use Rattle.ghg_trendunc.specs.Ends.{high_square, low_square}
use Rattle.ghg_trendunc.specs.Lines.{sides_of, sum_limit}

-- ---- pieces of a row

-- from a low to a high number of millionths, in hundredths rounded outward
unfoldable pub ends_text : (low high : ℕ) → List ℕ
ends_text low high = bounds_text (floor_by 10_000 (pos low)) (ceil_by 10_000 (pos high))

-- the square root of two times J
unfoldable pub l_text : Sides → List ℕ
l_text s = ends_text (low_root (2 * square s.j_low)) (high_root (2 * square s.j_high))

-- K and L
unfoldable pub sides_text : Option Sides → List ℕ
sides_text None = codes "-,-,-,-"
sides_text (Some s) = field (ends_text s.k_low s.k_high) ++ l_text s

-- ---- lines

-- the sum of what all lines in the tree emit in a year
abbrev pub sum_of : Outcomes → ℕ → List Name → ℤ
sum_of outcomes year names = fold (λ total name. total +ℤ line_tonnes outcomes year name) (pos 0) names

-- both years, with their sums
unfoldable pub trend_of : Data → Outcomes → ℕ → Trend
trend_of m outcomes year = record {
  base_year = base_year (span m);
  year = year;
  base_sum = sum_of outcomes (base_year (span m)) (emitters m);
  now_sum = sum_of outcomes year (emitters m);
}

pub record HasSums (t : Trend) : Type 0 where
  pub base_small : unsigned_abs t.base_sum ≤ sum_limit
  pub now_small : unsigned_abs t.now_sum ≤ sum_limit

-- what a line emits in both years, with its percentages
abbrev pub share_of : Outcomes → Trend → Name → ℕ × ℕ → TrendShare
share_of outcomes t name percentages = record {
  base = line_tonnes outcomes t.base_year name;
  now = line_tonnes outcomes t.year name;
  activity = percentages.0;
  factor = percentages.1;
}

-- the sides of a line that has a record
unfoldable pub line_sides : Data → Outcomes → Trend → Name → Option Sides
line_sides m outcomes t name =
    option_and_then (λ p. sides_of t.base_sum t.now_sum (share_of outcomes t name p)) (uncertainty m name)

unfoldable pub words_text : Outcomes → Trend → Name → Category × Gas → List ℕ
words_text outcomes t name pair =
    emission_words name pair ++ field (tonnes_text (line_tonnes outcomes t.base_year name)) ++
    field (tonnes_text (line_tonnes outcomes t.year name))

abbrev pub row_text : Outcomes → Trend → Name → Option (Category × Gas) → Option Sides → List ℕ
row_text outcomes t name None sides = []
row_text outcomes t name (Some pair) sides = words_text outcomes t name pair ++ sides_text sides ++ 10 ∷ []

unfoldable pub line_row : Data → Outcomes → Trend → Name → List ℕ
line_row m outcomes t name = row_text outcomes t name (emission m name) (line_sides m outcomes t name)

-- a line emits something in one of the years
abbrev pub emits : Outcomes → Trend → Name → Bool
emits outcomes t name = not (unsigned_abs (line_tonnes outcomes t.base_year name) == 0) ||
    not (unsigned_abs (line_tonnes outcomes t.year name) == 0)

-- such a line has no sides
unfoldable pub lacks_sides : Data → Outcomes → Trend → Name → Bool
lacks_sides m outcomes t name = is_none (line_sides m outcomes t name) && emits outcomes t name

-- ---- the total

-- the root of the sum of the squares
unfoldable pub root_text : List Sides → List ℕ
root_text rows = ends_text (low_root (sum_by low_square rows)) (high_root (sum_by high_square rows))

-- the root, unless the base year sums to zero or a line lacks sides
unfoldable pub total_ends : Bool → ℤ → List Sides → List ℕ
total_ends lacks base_sum rows =
    if lacks || (unsigned_abs base_sum == 0) then codes "-,-" else root_text rows

unfoldable pub sums_text : (base_sum now_sum : ℤ) → List ℕ
sums_text base_sum now_sum =
    codes "total,-,-," ++ field (tonnes_text base_sum) ++ field (tonnes_text now_sum) ++ codes "-,-,"

-- the sums and the uncertainty
unfoldable pub total_row : Bool → Trend → List Sides → List ℕ
total_row lacks t rows = sums_text t.base_sum t.now_sum ++ total_ends lacks t.base_sum rows ++ 10 ∷ []

-- ---- the table: each line in the tree that emits a gas, by name, and the total

abbrev pub table_text : Data → Outcomes → Trend → List ℕ
table_text m outcomes t =
    codes "code,category,gas,base,value,k_low,k_high,l_low,l_high\n" ++
    flat_map (line_row m outcomes t) (emitters m) ++
    total_row (list_any (lacks_sides m outcomes t) (emitters m)) t
    (filter_map (line_sides m outcomes t) (emitters m))

unfoldable pub trendunc_text : Data → Outcomes → ℕ → List ℕ
trendunc_text m outcomes year = table_text m outcomes (trend_of m outcomes year)
