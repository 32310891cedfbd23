use Rattle.ghg_affected.proofs.Once.{nodes_stand_once}
use Rattle.ghg_affected.proofs.laws.nodes_stand_once.Goals as goal

pub returns : goal.returns
returns c = nodes_stand_once
