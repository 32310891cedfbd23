use Rattle.ghg_affected.proofs.Kept.{overflows_are_in_patches}
use Rattle.ghg_affected.proofs.laws.overflows_are_in_patches.Goals as goal

pub returns : goal.returns
returns c = overflows_are_in_patches
