use Rattle.ghg_office.proofs.InForce.{requested_sound}
use Rattle.ghg_office.proofs.laws.bounds_hold_in_force.Goals as goal

pub returns : goal.returns
returns c = requested_sound
