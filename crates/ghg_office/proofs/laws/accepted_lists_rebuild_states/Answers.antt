use Rattle.ghg_office.proofs.Rebuilt.{lists_rebuild}
use Rattle.ghg_office.proofs.laws.accepted_lists_rebuild_states.Goals as goal

pub returns : goal.returns
returns c = lists_rebuild
