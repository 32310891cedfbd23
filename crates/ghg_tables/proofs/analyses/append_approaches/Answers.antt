use Rattle.std.proofs.Common.{arith, to_z-of_z}
use Rattle.std.proofs.lemmas.Grind.{common_steps}
use Rattle.ghg_tables.specs.Analyses.{approaches_text}
use Rattle.ghg_tables.proofs.analyses.append_approaches.Goals as goal

pub returns : goal.returns
unfolding approaches_text
returns c = grind (arith, common_steps, to_z-of_z)
