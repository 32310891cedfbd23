use Rattle.std.proofs.Common.{arith, to_z-of_z}
use Rattle.std.proofs.lemmas.Grind.{common_steps}
use Rattle.ghg_versions.specs.Recalculation.{amounts_text}
use Rattle.ghg_versions.proofs.recalculation.append_amounts.Goals as goal

pub returns : goal.returns
unfolding amounts_text
returns c = grind (arith, common_steps, to_z-of_z)
