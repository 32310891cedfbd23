use Rattle.ghg_http.proofs.OneRequest.{holds_none_early}
use Rattle.ghg_http.proofs.laws.holds_none_early.Goals as goal

pub returns : goal.returns
returns c = holds_none_early
