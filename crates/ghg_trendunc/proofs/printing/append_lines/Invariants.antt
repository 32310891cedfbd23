use Rattle.std.proofs.Common.{◌≡◌, ◌++◌, take}
use Rattle.std.specs.List.{flat_map}
use Rattle.ghg_definitions.specs.Compilation.{compilation}
use Rattle.ghg_trendunc.specs.Table.{line_row}
use Rattle.ghg_trendunc.proofs.printing.append_lines.Given as goal

abbrev pub invariant-loop-name : goal.invariant-loop-name
invariant-loop-name g l = l.out.items ≡ l.initial.out.items ++ flat_map (line_row (g.C.Cells.content l.cells) (compilation (g.C.Cells.content l.cells)) l.trend) (take l.name-index l.lines)
