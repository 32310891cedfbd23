-- The texts of the tables, as functions of the data, the outcomes of their nodes, and the year.
use Rattle.std.specs.Prelude.{ℕ, ◌+◌, ◌-◌, Bool, not, ◌&&◌, ◌==◌, nat_le, is_none, if◌then◌else◌, List, [], ◌++◌, map, codes, Option, Some, None, ℤ, unsigned_abs}
use Rattle.std.specs.List.{flat_map, list_any}
use Rattle.ghg_categories.specs.declared.category.Category.{Category}
use Rattle.ghg_categories.specs.declared.category.Category.TheVariants.{C1A, National, RA}
use Rattle.ghg_categories.specs.Tree.{code_of, stands_under, tree}
use Rattle.ghg_equations.specs.declared.eq_id.EqId.{EqId}
use Rattle.ghg_equations.specs.declared.quantity.Gas.{Gas}
use Rattle.ghg_equations.specs.declared.quantity.Gas.TheVariants.{Co2}
use Rattle.ghg_cell.specs.declared.input.Input.{Input}
use Rattle.ghg_units.specs.declared.node.Node.TheVariants as node
use Rattle.ghg_units.specs.declared.row.Span.{Span}
use Rattle.ghg_definitions.specs.Compilation.{first_year, years_from}
use Rattle.ghg_definitions.specs.Data.{Data, Name, category, line, line_names, span, uncertainty}
use Rattle.ghg_definitions.specs.Trials.{Outcomes}
use Rattle.ghg_uncertainty.specs.declared.Share.{Share}
use Rattle.ghg_tables.specs.declared.precision.Precision.TheVariants.{Thousandths}
use Rattle.ghg_tables.specs.declared.table.Table.{Table}
use Rattle.ghg_tables.specs.declared.table.Table.TheVariants as table
use Rattle.ghg_tables.specs.Analyses.{approaches_text, check_row, first_check_row, level_rows, total_row, trend_rows, uncertainty_row}
use Rattle.ghg_tables.specs.Rounding.{reported}
use Rattle.ghg_tables.specs.declared.pairs.Years.{Years}
use Rattle.ghg_tables.specs.Sums.{emission, lines_where, pairs, point_of, same_gas, shown, tonnes_of}
use Rattle.ghg_tables.specs.Texts.{cell_text, total_text, year_text}

-- the line that says what stands in the columns
abbrev pub header : Table → List ℕ
header table.Cells = codes "code,category,equation,gas,unit,value,low,high\n"
header table.Summary = codes "category,value,low,high\n"
header table.Series = codes "year,total,total_low,total_high,gross,gross_low,gross_high\n"
header table.Reference = codes "item,value\n"
header table.Uncertainty = codes "code,category,gas,value,activity,factor,combined_low,combined_high\n"
header table.Level = codes "category,gas,value,share,cumulative,key\n"
header table.Trend = codes "category,gas,base,value,trend,share,cumulative,key\n"
header table.Checks = codes "category,gas,previous,value,change,flag\n"

-- ---- cells: each line by name

-- the row of a line that is present
abbrev pub present_text : Name → Option Category → Option EqId → Input → List ℕ
present_text name (Some c) (Some e) value = cell_text name c e value
present_text name _ _ value = []

unfoldable pub line_row : Data → Outcomes → ℕ → Name → List ℕ
line_row m outcomes year name =
    present_text name (category m name) (line m name) (shown outcomes (node.Line name year))

unfoldable pub cells_text : Data → Outcomes → ℕ → List ℕ
cells_text m outcomes year = header table.Cells ++ flat_map (line_row m outcomes year) (line_names m)

-- ---- summary: each category of the tree, and the gross total

unfoldable pub category_row : Outcomes → ℕ → Category → List ℕ
category_row outcomes year c = total_text (code_of c) (shown outcomes (node.Total c year))

unfoldable pub gross_row : Outcomes → ℕ → List ℕ
gross_row outcomes year = total_text (codes "gross") (shown outcomes (node.Gross year))

unfoldable pub summary_text : Outcomes → ℕ → List ℕ
summary_text outcomes year =
    header table.Summary ++ flat_map (category_row outcomes year) tree ++ gross_row outcomes year

-- ---- series: each year from a first one to this one

unfoldable pub year_row : Outcomes → ℕ → List ℕ
year_row outcomes year =
    year_text year (shown outcomes (node.Total National year)) (shown outcomes (node.Gross year))

unfoldable pub series_text : ℕ → Outcomes → ℕ → List ℕ
series_text first outcomes year =
    header table.Series ++ flat_map (year_row outcomes) (years_from first (year + 1 - first))

-- ---- reference: CO2 at the reference approach, and of fuel combustion

-- the CO2 that the lines under a category emit in a year, in tonnes
unfoldable pub co2_under : Category → Data → Outcomes → ℕ → ℤ
co2_under top m outcomes year = tonnes_of outcomes
    (map (λ name. node.Line name year) (lines_where (λ k. same_gas k.1 Co2 && stands_under k.0 top) m))

unfoldable pub reference_text : Data → Outcomes → ℕ → List ℕ
reference_text m outcomes year =
    header table.Reference ++ approaches_text (co2_under RA m outcomes year) (co2_under C1A m outcomes year)

-- ---- uncertainty: each line in the tree that emits a gas, by name, and the total

-- the lines in the tree that emit a gas
abbrev pub emitters : Data → List Name
emitters m = lines_where (λ k. stands_under k.0 National) m

-- the tonnes of a line's equivalent
unfoldable pub line_tonnes : Outcomes → ℕ → Name → ℤ
line_tonnes outcomes year name = reported Thousandths (point_of (shown outcomes (node.Equiv name year)))

abbrev pub emitter_text : Name → Option (Category × Gas) → Input → Option (ℕ × ℕ) → List ℕ
emitter_text name None value percentages = []
emitter_text name (Some pair) value percentages = uncertainty_row name pair value percentages

unfoldable pub emitter_row : Data → Outcomes → ℕ → Name → List ℕ
emitter_row m outcomes year name =
    emitter_text name (emission m name) (shown outcomes (node.Equiv name year)) (uncertainty m name)

-- a line's part in the total
abbrev pub share_with : ℤ → Option (ℕ × ℕ) → Share
share_with tonnes None = record { tonnes = tonnes; activity = 0; factor = 0 }
share_with tonnes (Some percentages) =
    record { tonnes = tonnes; activity = percentages.0; factor = percentages.1 }

unfoldable pub share_of : Data → Outcomes → ℕ → Name → Share
share_of m outcomes year name = share_with (line_tonnes outcomes year name) (uncertainty m name)

-- a line that emits something has no record
unfoldable pub lacks_record : Data → Outcomes → ℕ → Name → Bool
lacks_record m outcomes year name =
    is_none (uncertainty m name) && not (unsigned_abs (line_tonnes outcomes year name) == 0)

unfoldable pub uncertainty_text : Data → Outcomes → ℕ → List ℕ
uncertainty_text m outcomes year =
    header table.Uncertainty ++ flat_map (emitter_row m outcomes year) (emitters m) ++
    total_row (list_any (lacks_record m outcomes year) (emitters m))
    (map (share_of m outcomes year) (emitters m))

-- ---- level and trend: each pair of a category and a gas, by size

abbrev pub base_year : Option Span → ℕ
base_year None = 0
base_year (Some s) = s.base

-- a year beside the base year
abbrev pub since_base : Data → ℕ → Years
since_base m year = record { base = base_year (span m); current = year }

unfoldable pub level_text : Data → Outcomes → ℕ → List ℕ
level_text m outcomes year = header table.Level ++ level_rows (pairs m outcomes (since_base m year))

unfoldable pub trend_text : Data → Outcomes → ℕ → List ℕ
trend_text m outcomes year = header table.Trend ++ trend_rows (pairs m outcomes (since_base m year))

-- ---- checks: each pair beside the year before

abbrev pub since_last : ℕ → Years
since_last year = record { base = year - 1; current = year }

unfoldable pub checks_text : Data → Outcomes → ℕ → List ℕ
checks_text m outcomes year =
    header table.Checks ++ flat_map (if nat_le year (first_year (span m)) then first_check_row else check_row)
    (pairs m outcomes (since_last year))

-- ---- each table

abbrev pub table_text : Table → Data → Outcomes → ℕ → List ℕ
table_text table.Cells m outcomes year = cells_text m outcomes year
table_text table.Summary m outcomes year = summary_text outcomes year
table_text table.Series m outcomes year = series_text (first_year (span m)) outcomes year
table_text table.Reference m outcomes year = reference_text m outcomes year
table_text table.Uncertainty m outcomes year = uncertainty_text m outcomes year
table_text table.Level m outcomes year = level_text m outcomes year
table_text table.Trend m outcomes year = trend_text m outcomes year
table_text table.Checks m outcomes year = checks_text m outcomes year
