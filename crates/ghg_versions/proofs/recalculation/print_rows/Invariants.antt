use Rattle.std.proofs.Common.{◌≡◌, ◌++◌, take, codes}
use Rattle.std.specs.List.{flat_map}
use Rattle.ghg_equations.specs.Quantity.{gases}
use Rattle.ghg_versions.specs.Recalculation.{recalculated_row}
use Rattle.ghg_versions.proofs.recalculation.print_rows.Given as goal

abbrev pub invariant-loop-category : goal.invariant-loop-category
invariant-loop-category l = l.out.items ≡ codes "category,gas,reported,now,difference,percent\n" ++ flat_map (λ c. flat_map (λ g. recalculated_row l.reported l.now (c, g)) gases) (take l.category-index l.category-items)
