-- The rows of the analyses, as functions of the numbers in them.
-- Source: 2006 IPCC Guidelines, Volume 1, Chapters 3 (Equations 3.1 and 3.2), 4 (Equations 4.1 to 4.3) and 6.
use Rattle.std.specs.Prelude.{ℕ, ◌+◌, ◌*◌, Bool, ◌==◌, ◌||◌, nat_lt, if◌then◌else◌, List, [], ◌∷◌, ◌++◌, codes, Option, Some, None, ℤ, pos, ◌-ℤ◌, unsigned_abs}
use Rattle.std.specs.List.{flat_map, sum_by}
use Rattle.ghg_categories.specs.declared.category.Category.{Category}
use Rattle.ghg_categories.specs.Tree.{code_of}
use Rattle.ghg_equations.specs.declared.quantity.Gas.{Gas}
use Rattle.ghg_equations.specs.Quantity.{word_of}
use Rattle.ghg_interval.specs.Rounding.{ceil_by, floor_by}
use Rattle.ghg_cell.specs.declared.input.Input.{Input}
use Rattle.ghg_cell.specs.declared.input.Input.TheVariants.{Blank, Known}
use Rattle.ghg_definitions.specs.Data.{Name}
use Rattle.ghg_keycat.specs.declared.Pair.{Pair}
use Rattle.ghg_keycat.specs.Ranking.{before, in_order, is_key}
use Rattle.ghg_keycat.specs.Sizes.{base_size, base_sum, level_size, now_sum, trend_size}
use Rattle.ghg_uncertainty.specs.declared.Share.{Share}
use Rattle.ghg_uncertainty.specs.Brackets.{high_root, low_root}
use Rattle.ghg_uncertainty.specs.Totals.{net, spread, square_sum}
use Rattle.ghg_tables.specs.declared.precision.Precision.TheVariants.{Thousandths}
use Rattle.ghg_tables.specs.Rounding.{reported}
use Rattle.ghg_tables.specs.Texts.{answer_text, field, hundredths_text, percent_text, tonnes_text}

-- ---- the reference approach beside the sectoral one

unfoldable pub item_text : List ℕ → List ℕ → List ℕ
item_text item value = field item ++ value ++ 10 ∷ []

-- the difference over the magnitude of the sectoral approach, if that is not zero
unfoldable pub gap_text : ℤ → ℤ → List ℕ
gap_text difference sectoral =
    if unsigned_abs sectoral == 0 then codes "-" else percent_text (unsigned_abs sectoral) difference

-- whether the difference is more than 5 percent
unfoldable pub gap_flag : ℤ → ℤ → List ℕ
gap_flag difference sectoral =
    if unsigned_abs sectoral == 0 then codes "-"
    else answer_text (nat_lt (unsigned_abs sectoral) (20 * unsigned_abs difference))

-- the tonnes of both, and their difference
unfoldable pub amounts_text : ℤ → ℤ → ℤ → List ℕ
amounts_text reference sectoral difference =
    item_text (codes "reference") (tonnes_text reference) ++
    item_text (codes "sectoral") (tonnes_text sectoral) ++
    item_text (codes "difference") (tonnes_text difference)

unfoldable pub approaches_text : ℤ → ℤ → List ℕ
approaches_text reference sectoral =
    amounts_text reference sectoral (reference -ℤ sectoral) ++
    item_text (codes "percent") (gap_text (reference -ℤ sectoral) sectoral) ++
    item_text (codes "flag") (gap_flag (reference -ℤ sectoral) sectoral)

-- ---- pairs

unfoldable pub pair_words : Pair → List ℕ
pair_words p = field (code_of p.category) ++ field (word_of p.gas)

-- the share of a size in a total, the share up to and with it, and whether it is key
unfoldable pub shares_text : ℕ → ℕ → ℕ → List ℕ
shares_text total size before =
    if total == 0 then codes "-,-,no"
    else field (percent_text total (pos size)) ++ field (percent_text total (pos (before + size))) ++
    answer_text (is_key before total)

-- of a pair among all
unfoldable pub ranked_text : (Pair → ℕ) → List Pair → Pair → List ℕ
ranked_text size rows p = shares_text (sum_by size rows) (size p) (before size rows p)

-- ---- level assessment

unfoldable pub level_row : List Pair → Pair → List ℕ
level_row rows p =
    pair_words p ++ field (tonnes_text p.now) ++ ranked_text level_size rows p ++ 10 ∷ []

unfoldable pub level_rows : List Pair → List ℕ
level_rows rows = flat_map (level_row rows) (in_order level_size rows)

-- ---- trend assessment

unfoldable pub trend_words : Pair → List ℕ
trend_words p = pair_words p ++ field (tonnes_text p.base) ++ field (tonnes_text p.now)

-- what a pair adds to the trend, for the sums of both years
abbrev pub trend_of : List Pair → Pair → ℕ
trend_of rows p = trend_size (base_sum rows) (now_sum rows) p

abbrev pub trend_denominator : List Pair → ℕ
trend_denominator rows = base_size rows * unsigned_abs (base_sum rows)

unfoldable pub trend_row : List Pair → Pair → List ℕ
trend_row rows p =
    trend_words p ++ field (percent_text (trend_denominator rows) (pos (trend_of rows p))) ++
    ranked_text (trend_of rows) rows p ++ 10 ∷ []

-- where the base year sums to zero
unfoldable pub untrended_row : Pair → List ℕ
untrended_row p = trend_words p ++ codes "-,-,-,no\n"

unfoldable pub trend_rows : List Pair → List ℕ
trend_rows rows =
    if unsigned_abs (base_sum rows) == 0 then flat_map untrended_row rows
    else flat_map (trend_row rows) (in_order (trend_of rows) rows)

-- ---- checks of a year against the one before

-- the change over the magnitude of the year before, and whether it is more than 20 percent
unfoldable pub change_text : ℤ → ℤ → List ℕ
change_text previous value =
    if unsigned_abs previous == 0 then codes "-,-"
    else field (percent_text (unsigned_abs previous) (value -ℤ previous)) ++
    answer_text (nat_lt (unsigned_abs previous) (5 * unsigned_abs (value -ℤ previous)))

unfoldable pub check_row : Pair → List ℕ
check_row p =
    pair_words p ++ field (tonnes_text p.base) ++ field (tonnes_text p.now) ++
    change_text p.base p.now ++ 10 ∷ []

-- in the first year
unfoldable pub first_check_row : Pair → List ℕ
first_check_row p = pair_words p ++ codes "-," ++ field (tonnes_text p.now) ++ codes "-,-\n"

-- ---- error propagation

-- the value of an equivalent
unfoldable pub value_text : Input → List ℕ
value_text Blank = codes "NE"
value_text (Known point range) = tonnes_text (reported Thousandths point)

-- both percentages, and the bracket of the root of the sum of their squares
unfoldable pub record_text : ℕ → ℕ → List ℕ
record_text activity factor =
    field (hundredths_text (pos activity)) ++ field (hundredths_text (pos factor)) ++
    field (hundredths_text (pos (low_root (square_sum activity factor)))) ++
    hundredths_text (pos (high_root (square_sum activity factor)))

-- dashes without a record
unfoldable pub uncertainties_text : Option (ℕ × ℕ) → List ℕ
uncertainties_text None = codes "-,-,-,-"
uncertainties_text (Some percentages) = record_text percentages.0 percentages.1

-- the name of a line, where it stands and what it emits
unfoldable pub emission_words : Name → Category × Gas → List ℕ
emission_words name pair = field name ++ field (code_of pair.0) ++ field (word_of pair.1)

unfoldable pub uncertainty_row : Name → Category × Gas → Input → Option (ℕ × ℕ) → List ℕ
uncertainty_row name pair value percentages =
    emission_words name pair ++ field (value_text value) ++ uncertainties_text percentages ++ 10 ∷ []

-- a low and a high bound, in hundredths of a percent
unfoldable pub bounds_text : ℤ → ℤ → List ℕ
bounds_text low high = field (hundredths_text low) ++ hundredths_text high

-- the bracket of the root of the spread over the magnitude of the sum
abbrev pub bracket_text : List Share → List ℕ
bracket_text shares = bounds_text
    (floor_by (unsigned_abs (net shares)) (pos (low_root (spread shares))))
    (ceil_by (unsigned_abs (net shares)) (pos (high_root (spread shares))))

-- the bracket, unless the sum is zero or an amount lacks a record
unfoldable pub total_bracket : Bool → List Share → List ℕ
total_bracket lacks shares =
    if lacks || (unsigned_abs (net shares) == 0) then codes "-,-" else bracket_text shares

-- the sum and its uncertainty
unfoldable pub total_row : Bool → List Share → List ℕ
total_row lacks shares =
    codes "total,-,-," ++ field (tonnes_text (net shares)) ++ codes "-,-," ++ total_bracket lacks shares ++
    10 ∷ []
