use Rattle.ghg_uncertainty.proofs.Held.{totals_hold}
use Rattle.ghg_uncertainty.proofs.laws.totals_hold_roots.Goals as goal

pub returns : goal.returns
returns c = totals_hold
