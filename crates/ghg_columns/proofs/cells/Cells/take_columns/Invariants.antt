use Rattle.std.proofs.Common.{◌≡◌, ℕ, length}
use Rattle.std.specs.BTreeMap.{get}
use Rattle.std.specs.Option.{option_or}
use Rattle.ghg_columns.specs.declared.series.Series.{Series}
use Rattle.ghg_columns.specs.Cells.{HasRoomForAll, column_of, series_order, value_of_series}
use Rattle.ghg_columns.proofs.cells.Cells.take_columns.Given as goal

abbrev pub invariant-loop-series : goal.invariant-loop-series
invariant-loop-series l =
    ((s : Series) (y : ℕ) → option_or (value_of_series (get series_order l.columns) s y) (value_of_series (column_of l.self) s y) ≡ option_or (value_of_series (get series_order l.fn.fresh) s y) (value_of_series (column_of l.fn.self) s y))
    × HasRoomForAll l.self (get series_order l.columns)

abbrev pub decreases-loop-series : goal.decreases-loop-series
decreases-loop-series l = length l.columns.entries
