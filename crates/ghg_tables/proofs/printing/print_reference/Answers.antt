use Rattle.std.proofs.Common.{arith}
use Rattle.std.proofs.lemmas.Grind.{common_steps}
use Rattle.ghg_tables.proofs.Few.{few_lines}
use Rattle.ghg_tables.proofs.printing.print_reference.Goals as goal

pub co2_under-reference-requires-clause-few : goal.co2_under-reference-requires-clause-few
co2_under-reference-requires-clause-few g c = grind (arith, common_steps, few_lines)

pub co2_under-sectoral-requires-clause-few : goal.co2_under-sectoral-requires-clause-few
co2_under-sectoral-requires-clause-few g c = grind (arith, common_steps, few_lines)
