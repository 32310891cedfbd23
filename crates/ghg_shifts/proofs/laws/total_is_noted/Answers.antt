use Rattle.ghg_shifts.proofs.Steps.{total_is_noted}
use Rattle.ghg_shifts.proofs.laws.total_is_noted.Goals as goal

pub returns : goal.returns
returns c = total_is_noted
