use Rattle.std.proofs.Common.{◌≡◌, ◌++◌, take}
use Rattle.std.specs.List.{flat_map}
use Rattle.ghg_equations.specs.Quantity.{gases}
use Rattle.ghg_definitions.specs.Compilation.{compilation}
use Rattle.ghg_tables.specs.Sums.{pair_at}
use Rattle.ghg_tables.proofs.pairs.append_gases.Given as goal

abbrev pub invariant-loop-gas : goal.invariant-loop-gas
invariant-loop-gas g l = l.rows.items ≡ l.initial.rows.items ++ flat_map (λ gas. pair_at (g.C.Cells.content l.cells) (compilation (g.C.Cells.content l.cells)) l.years (l.category, gas)) (take l.gas-index gases)
