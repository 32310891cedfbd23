use Rattle.std.proofs.Common.{arith, to_z-of_z}
use Rattle.std.proofs.lemmas.Grind.{common_steps}
use Rattle.ghg_versions.specs.Recalculation.{compared_row}
use Rattle.ghg_versions.proofs.recalculation.append_compared.Goals as goal

pub returns : goal.returns
unfolding compared_row
returns c = grind (arith, common_steps, to_z-of_z)
