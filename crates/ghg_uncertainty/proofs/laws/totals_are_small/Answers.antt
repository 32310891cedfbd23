use Rattle.ghg_uncertainty.proofs.RootBounds.{totals_small}
use Rattle.ghg_uncertainty.proofs.laws.totals_are_small.Goals as goal

pub returns : goal.returns
returns c = totals_small
