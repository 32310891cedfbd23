use Rattle.ghg_office.proofs.Rebuilt.{replays_rebuild}
use Rattle.ghg_office.proofs.laws.replays_rebuild_states.Goals as goal

pub returns : goal.returns
returns c = replays_rebuild
