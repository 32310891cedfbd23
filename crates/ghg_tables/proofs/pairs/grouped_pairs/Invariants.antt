use Rattle.std.proofs.Common.{◌≡◌, take}
use Rattle.std.specs.List.{flat_map}
use Rattle.ghg_equations.specs.Quantity.{gases}
use Rattle.ghg_definitions.specs.Compilation.{compilation}
use Rattle.ghg_tables.specs.Sums.{pair_at}
use Rattle.ghg_tables.proofs.pairs.grouped_pairs.Given as goal

abbrev pub invariant-loop-category : goal.invariant-loop-category
invariant-loop-category g l = l.rows.items ≡ flat_map (λ c. flat_map (λ g'. pair_at (g.C.Cells.content l.cells) (compilation (g.C.Cells.content l.cells)) l.years (c, g')) gases) (take l.category-index l.category-items)
