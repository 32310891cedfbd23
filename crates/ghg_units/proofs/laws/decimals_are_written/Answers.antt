use Rattle.ghg_units.proofs.Written.{decimals_written}
use Rattle.ghg_units.proofs.laws.decimals_are_written.Goals as goal

pub returns : goal.returns
returns c = decimals_written
