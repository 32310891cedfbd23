use Rattle.ghg_affected.proofs.Kept.{breaks_are_affected}
use Rattle.ghg_affected.proofs.laws.breaks_are_affected.Goals as goal

pub returns : goal.returns
returns c = breaks_are_affected
