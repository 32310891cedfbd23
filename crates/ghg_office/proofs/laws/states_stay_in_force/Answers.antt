use Rattle.ghg_office.proofs.InForce.{states_in_force}
use Rattle.ghg_office.proofs.laws.states_stay_in_force.Goals as goal

pub returns : goal.returns
returns c = states_in_force
