use Rattle.ghg_keycat.proofs.Small.{small}
use Rattle.ghg_keycat.proofs.laws.assessments_are_small.Goals as goal

pub returns : goal.returns
returns c = small
