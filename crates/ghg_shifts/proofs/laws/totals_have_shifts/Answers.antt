use Rattle.ghg_shifts.proofs.Progress.{totals_have_shifts}
use Rattle.ghg_shifts.proofs.laws.totals_have_shifts.Goals as goal

pub returns : goal.returns
returns c = totals_have_shifts
