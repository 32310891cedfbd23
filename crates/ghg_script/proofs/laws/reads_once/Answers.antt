use Rattle.ghg_script.proofs.Scripts as scripts
use Rattle.ghg_script.proofs.laws.reads_once.Goals as goal

pub returns : goal.returns
returns g c = scripts.reads_once g.D.Dialect.forms
