use Rattle.ghg_uncertainty.proofs.RootBounds.{roots_are}
use Rattle.ghg_uncertainty.proofs.laws.brackets_are_roots.Goals as goal

pub returns : goal.returns
returns c = roots_are
