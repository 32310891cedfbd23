use Rattle.ghg_splice.proofs.Held.{fills_hold}
use Rattle.ghg_splice.proofs.laws.fills_hold_exact_fractions.Goals as goal

pub returns : goal.returns
returns c = fills_hold
