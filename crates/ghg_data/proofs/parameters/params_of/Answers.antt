use Rattle.ghg_data.proofs.EquationParameters.{parameters_named, parameters_seen}
use Rattle.ghg_data.proofs.parameters.params_of.Goals as goal

pub returns-clause-table : goal.returns-clause-table
returns-clause-table c = parameters_seen c.equation.result.now c.args.id c.equation.ensures

pub returns-clause-names : goal.returns-clause-names
returns-clause-names c = parameters_named c.equation.result.now c.args.id c.equation.ensures
