use Rattle.ghg_tables.proofs.Nearest.{nearest_is}
use Rattle.ghg_tables.proofs.laws.near_is_nearest.Goals as goal

pub returns : goal.returns
returns c = nearest_is
