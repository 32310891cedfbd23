use Rattle.ghg_affected.proofs.Dependence.{untouched_are_unchanged}
use Rattle.ghg_affected.proofs.laws.untouched_are_unchanged.Goals as goal

pub returns : goal.returns
returns c = untouched_are_unchanged
