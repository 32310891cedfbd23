use Rattle.ghg_definitions.proofs.Central.{choices_exist}
use Rattle.ghg_definitions.proofs.laws.choices_exist.Goals as goal

pub returns : goal.returns
returns c = choices_exist
