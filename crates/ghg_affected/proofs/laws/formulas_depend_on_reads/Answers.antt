use Rattle.ghg_affected.proofs.Dependence.{formulas_depend_on_reads}
use Rattle.ghg_affected.proofs.laws.formulas_depend_on_reads.Goals as goal

pub returns : goal.returns
returns c = formulas_depend_on_reads
