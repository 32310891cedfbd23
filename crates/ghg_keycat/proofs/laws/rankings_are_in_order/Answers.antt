use Rattle.ghg_keycat.proofs.InOrder.{ranked_in_order}
use Rattle.ghg_keycat.proofs.laws.rankings_are_in_order.Goals as goal

pub returns : goal.returns
returns c = ranked_in_order
