use Rattle.ghg_http.proofs.Prefixes.{stripped_text}
use Rattle.ghg_http.proofs.route.behind.Goals as goal

pub returns : goal.returns
returns c = stripped_text _ _ c.strip_prefix.result c.strip_prefix.ensures.cases
