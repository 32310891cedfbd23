use Rattle.std.proofs.Common.{◌≡◌}
use Rattle.std.specs.BTreeMap.{get}
use Rattle.ghg_columns.specs.Cells.{cell_at, series_order}
use Rattle.ghg_columns.proofs.Rooms.{HasRoomBut}
use Rattle.ghg_columns.proofs.cells.Cells.make_room_for.Given as goal

abbrev pub invariant-loop-series : goal.invariant-loop-series
invariant-loop-series l = (cell_at l.self ≡ cell_at l.fn.self) × HasRoomBut l.self (get series_order l.fn.columns) l.series-iterator
