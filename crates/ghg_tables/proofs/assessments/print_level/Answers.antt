use Rattle.std.proofs.Common.{arith}
use Rattle.std.proofs.lemmas.Grind.{common_steps}
use Rattle.ghg_tables.proofs.Assessing.{levels_are, levels_bounded}
use Rattle.ghg_tables.proofs.assessments.print_level.Goals as goal

pub append_levels-requires : goal.append_levels-requires
append_levels-requires g c = grind (arith, common_steps, levels_bounded)

pub returns : goal.returns
returns g c = grind (arith, common_steps, levels_are)
