use Rattle.ghg_import.proofs.Formed.{all_formed}
use Rattle.ghg_import.proofs.laws.rows_are_well_formed.Goals as goal

pub returns : goal.returns
returns c = all_formed
