use Rattle.std.proofs.Common.{arith}
use Rattle.std.proofs.lemmas.Grind.{common_steps}
use Rattle.ghg_tables.proofs.Few.{few_lines}
use Rattle.ghg_tables.proofs.printing.print_cells.Goals as goal

pub overflow_mul-len : goal.overflow_mul-len
overflow_mul-len g c = grind (arith, common_steps, few_lines)

pub overflow_add-len : goal.overflow_add-len
overflow_add-len g c = grind (arith, common_steps, few_lines)
