use Rattle.std.proofs.Common.{◌≡◌, ◌++◌, ◌-◌, codes}
use Rattle.std.specs.List.{flat_map}
use Rattle.ghg_definitions.specs.Compilation.{compilation, years_from}
use Rattle.ghg_tables.specs.Tables.{year_row}
use Rattle.ghg_tables.proofs.printing.print_series.Given as goal

abbrev pub invariant-loop-each : goal.invariant-loop-each
invariant-loop-each g l = l.out.items ≡ codes "year,total,total_low,total_high,gross,gross_low,gross_high\n" ++ flat_map (year_row (compilation (g.C.Cells.content l.cells))) (years_from l.first (l.each - l.first))
