-- Columns that are written, of which the last one stays out of the map.
use Rattle.std.specs.Prelude.{Bool, false, if◌then◌else◌, Some}
use Rattle.std.specs.BTreeMap.{get, is_at}
use Rattle.std.specs.Option.{option_map_or}
use Rattle.ghg_columns.specs.declared.series.Series.{Series}
use Rattle.ghg_columns.specs.declared.written.Written.{Written}
use Rattle.ghg_columns.specs.Cells.{Columns, series_order}

-- the last column is that of the series
abbrev pub is_last : Written → Series → Bool
is_last written s = option_map_or (λ last. is_at (series_order last) s) written.series false

-- the column of a series: the last one, else that of the map
abbrev pub column_in : Written → Columns
column_in written s = if is_last written s then Some written.last else get series_order written.columns s
