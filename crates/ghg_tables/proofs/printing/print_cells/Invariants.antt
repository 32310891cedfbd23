use Rattle.std.proofs.Common.{◌≡◌, ◌++◌, take, codes}
use Rattle.std.specs.List.{flat_map}
use Rattle.ghg_definitions.specs.Compilation.{compilation}
use Rattle.ghg_tables.specs.Tables.{line_row}
use Rattle.ghg_tables.proofs.printing.print_cells.Given as goal

abbrev pub invariant-loop-name : goal.invariant-loop-name
invariant-loop-name g l = l.out.items ≡ codes "code,category,equation,gas,unit,value,low,high\n" ++ flat_map (line_row (g.C.Cells.content l.cells) (compilation (g.C.Cells.content l.cells)) l.year) (take l.name-index l.name-items)
