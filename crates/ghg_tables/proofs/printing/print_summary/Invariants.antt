use Rattle.std.proofs.Common.{◌≡◌, ◌++◌, take, codes}
use Rattle.std.specs.List.{flat_map}
use Rattle.ghg_definitions.specs.Compilation.{compilation}
use Rattle.ghg_tables.specs.Tables.{category_row}
use Rattle.ghg_tables.proofs.printing.print_summary.Given as goal

abbrev pub invariant-loop-category : goal.invariant-loop-category
invariant-loop-category g l = l.out.items ≡ codes "category,value,low,high\n" ++ flat_map (category_row (compilation (g.C.Cells.content l.cells)) l.year) (take l.category-index l.category-items)
