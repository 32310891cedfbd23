use Rattle.ghg_roots.proofs.Found.{decay_exact}
use Rattle.ghg_roots.proofs.laws.decay_brackets_are_exact.Goals as goal

pub returns : goal.returns
returns c = decay_exact
