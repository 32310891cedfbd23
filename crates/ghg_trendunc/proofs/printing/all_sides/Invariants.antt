use Rattle.std.proofs.Common.{◌≡◌, ◌≤◌, All, length, take}
use Rattle.std.specs.List.{filter_map}
use Rattle.ghg_definitions.specs.Compilation.{compilation}
use Rattle.ghg_trendunc.specs.Ends.{AreSides}
use Rattle.ghg_trendunc.specs.Table.{line_sides}
use Rattle.ghg_trendunc.proofs.printing.all_sides.Given as goal

abbrev pub invariant-loop-name : goal.invariant-loop-name
invariant-loop-name g l = record {
  value : l.rows.items ≡ filter_map (line_sides (g.C.Cells.content l.cells) (compilation (g.C.Cells.content l.cells)) l.trend) (take l.name-index l.lines);
  each : All AreSides l.rows.items;
  few : length l.rows.items ≤ l.name-index;
}
