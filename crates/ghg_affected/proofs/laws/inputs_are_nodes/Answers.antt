use Rattle.ghg_affected.proofs.Closed.{inputs_are_nodes}
use Rattle.ghg_affected.proofs.laws.inputs_are_nodes.Goals as goal

pub returns : goal.returns
returns c = inputs_are_nodes
