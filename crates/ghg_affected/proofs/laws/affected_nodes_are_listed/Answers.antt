use Rattle.ghg_affected.proofs.Affected.{affected_nodes_are_listed}
use Rattle.ghg_affected.proofs.laws.affected_nodes_are_listed.Goals as goal

pub returns : goal.returns
returns c = affected_nodes_are_listed
