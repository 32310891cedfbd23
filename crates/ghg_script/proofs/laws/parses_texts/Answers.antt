use Rattle.ghg_script.proofs.Commands as commands
use Rattle.ghg_script.proofs.laws.parses_texts.Goals as goal

pub returns : goal.returns
returns g c = commands.parses_texts g.D.Dialect.forms
