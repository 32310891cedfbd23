use Rattle.ghg_interval.proofs.Division.{quotients_undo_products}
use Rattle.ghg_interval.proofs.laws.quotients_undo_products.Goals as goal

pub returns : goal.returns
returns c = quotients_undo_products
