use Rattle.std.proofs.Common.{arith, to_z-of_z}
use Rattle.std.proofs.lemmas.Grind.{common_steps}
use Rattle.ghg_tables.specs.Analyses.{check_row}
use Rattle.ghg_tables.proofs.analyses.append_check.Goals as goal

pub returns : goal.returns
unfolding check_row
returns c = grind (arith, common_steps, to_z-of_z)
