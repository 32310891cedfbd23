use Rattle.ghg_affected.proofs.Once.{affected_nodes_stand_once}
use Rattle.ghg_affected.proofs.laws.affected_nodes_stand_once.Goals as goal

pub returns : goal.returns
returns c = affected_nodes_stand_once
