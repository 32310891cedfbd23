use Rattle.ghg_http.proofs.Repeats.{replies_to_repeats}
use Rattle.ghg_http.proofs.laws.replies_to_repeats.Goals as goal

pub returns : goal.returns
returns c = replies_to_repeats
