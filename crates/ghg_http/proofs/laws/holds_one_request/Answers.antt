use Rattle.ghg_http.proofs.OneRequest.{holds_one_request}
use Rattle.ghg_http.proofs.laws.holds_one_request.Goals as goal

pub returns : goal.returns
returns c = holds_one_request
