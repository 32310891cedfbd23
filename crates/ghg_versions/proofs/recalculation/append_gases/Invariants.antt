use Rattle.std.proofs.Common.{◌≡◌, ◌++◌, take}
use Rattle.std.specs.List.{flat_map}
use Rattle.ghg_equations.specs.Quantity.{gases}
use Rattle.ghg_versions.specs.Recalculation.{recalculated_row}
use Rattle.ghg_versions.proofs.recalculation.append_gases.Given as goal

abbrev pub invariant-loop-gas : goal.invariant-loop-gas
invariant-loop-gas l = l.out.items ≡ l.initial.out.items ++ flat_map (λ g. recalculated_row l.reported l.now (l.category, g)) (take l.gas-index gases)
