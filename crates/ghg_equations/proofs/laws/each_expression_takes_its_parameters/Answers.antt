use Rattle.ghg_equations.proofs.Rows.{parameters_taken}
use Rattle.ghg_equations.proofs.laws.each_expression_takes_its_parameters.Goals as goal

pub returns : goal.returns
returns c = parameters_taken
