use Rattle.ghg_affected.proofs.Kept.{unaffected_keep}
use Rattle.ghg_affected.proofs.laws.unaffected_keep.Goals as goal

pub returns : goal.returns
returns c = unaffected_keep
