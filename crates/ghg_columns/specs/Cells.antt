-- The outcomes of nodes, and the cells that are kept.
use Rattle.std.specs.Prelude.{◌≡◌, ℕ, Bool, true, false, if◌then◌else◌, IsSomeAnd, Option, Some, None, Result, Ok, Err}
use Rattle.std.specs.Option.{option_map, option_or}
use Rattle.std.specs.Borrow.{Bor}
use Rattle.std.specs.BTreeMap.{get, is_at}
use Rattle.std.specs.declared.cmp.Ordering.{Ordering}
use Rattle.ghg_cell.specs.declared.input.Input.{Input}
use Rattle.ghg_interval.specs.declared.Over.{Over}
use Rattle.ghg_units.specs.declared.node.Node.{Node}
use Rattle.ghg_units.specs.declared.node.Node.TheVariants as node
use Rattle.ghg_affected.specs.Equalities.{same_node}
use Rattle.ghg_definitions.specs.Formulas.{Outcome}
use Rattle.ghg_definitions.specs.Nodes.{year_in}
use Rattle.ghg_definitions.specs.Trials.{Outcomes, or_blank}
use Rattle.ghg_columns.specs.declared.cells.Cells.{Cells}
use Rattle.ghg_columns.specs.declared.column.Column.{Column}
use Rattle.ghg_columns.specs.declared.series.Series.{Series}
use Rattle.ghg_columns.specs.declared.series.Series.TheVariants as series
use Rattle.ghg_columns.specs.contracts.series.SeriesOrd.TheImpl as derived_of_series
use Rattle.ghg_columns.specs.Columns.{CanTake, value_in}

-- ---- outcomes

-- no node has one
abbrev pub no_outcomes : Outcomes
no_outcomes n = None

-- the outcome of a node in the fresh ones, else in what is kept
abbrev pub found_in : Outcomes → Outcomes → Outcomes
found_in fresh kept n = option_or (fresh n) (kept n)

-- the outcome of a node, which is blank where it has none
abbrev pub outcome_in : Outcomes → Node → Outcome
outcome_in outcomes n = or_blank (outcomes n)

-- the outcomes with this one at the node
abbrev pub with_outcome : Outcomes → Node → Outcome → Outcomes
with_outcome outcomes n outcome k = if same_node k n then Some outcome else outcomes k

-- the outcome that is told by a reference to the value
abbrev pub outcome_behind : Result (Bor Input) Over → Outcome
outcome_behind (Ok value) = Ok value.now
outcome_behind (Err over) = Err over

-- whether it is a value, and neither over nor missing
abbrev pub has_value : Option Outcome → Bool
has_value None = false
has_value (Some (Ok value)) = true
has_value (Some (Err over)) = false

-- ---- series

-- the order that the code has
abbrev pub series_order : Series → Series → Ordering
series_order = (derived_of_series.ghosts).cmp

abbrev pub series_of : Node → Series
series_of (node.Line name year) = series.Line name
series_of (node.Equiv name year) = series.Equivalent name
series_of (node.Total category year) = series.Total category
series_of (node.Gross year) = series.Gross

abbrev pub node_at : Series → ℕ → Node
node_at (series.Line name) year = node.Line name year
node_at (series.Equivalent name) year = node.Equiv name year
node_at (series.Total category) year = node.Total category year
node_at series.Gross year = node.Gross year

-- the outcomes but those of the series
abbrev pub without_series : Outcomes → Series → Outcomes
without_series outcomes s n = if is_at (series_order s) (series_of n) then None else outcomes n

-- ---- cells

-- the columns that series have
abbrev pub Columns : Type 0
Columns = Series → Option Column

-- the value of a year in a column, if there is one
abbrev pub value_at : Option Column → ℕ → Option Input
value_at None year = None
value_at (Some column) year = value_in column year

-- the value of a series in a year, if it has one
abbrev pub value_of_series : Columns → Series → ℕ → Option Input
value_of_series columns s year = value_at (columns s) year

-- the value of a node that has a cell in the columns
abbrev pub cells_in : Columns → Outcomes
cells_in columns n = option_map Ok (value_of_series columns (series_of n) (year_in n))

abbrev pub column_of : Cells → Columns
column_of cells s = get series_order cells.columns s

-- the value of a node that has a cell
abbrev pub cell_at : Cells → Outcomes
cell_at cells = cells_in (column_of cells)

-- ---- room for fresh values

-- the series has a column, which can take the fresh one
abbrev pub HasRoomIn : Cells → Series → Column → Type 0
HasRoomIn cells s fresh = IsSomeAnd (column_of cells s) (λ kept. CanTake kept fresh)

-- there is room for the values of all of these columns
abbrev pub HasRoomForAll : Cells → Columns → Type 0
HasRoomForAll cells columns =
    (s : Series) (column : Column) → columns s ≡ Some column → HasRoomIn cells s column

-- the columns of other series stay
abbrev pub SameElsewhere : Series → Cells → Cells → Type 0
SameElsewhere s old new =
    (q : Series) → is_at (series_order s) q ≡ false → column_of new q ≡ column_of old q
