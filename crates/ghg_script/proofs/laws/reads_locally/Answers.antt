use Rattle.ghg_script.proofs.Scripts as scripts
use Rattle.ghg_script.proofs.laws.reads_locally.Goals as goal

pub returns : goal.returns
returns g c = scripts.reads_locally g.D.Dialect.forms
