use Rattle.ghg_http.proofs.Targets.{targets_found}
use Rattle.ghg_http.proofs.laws.finds_targets.Goals as goal

pub returns : goal.returns
returns c = targets_found
