use Rattle.std.proofs.Common.{◌≡◌}
use Rattle.ghg_data.proofs.holdings.make_slots.Given as goal

abbrev pub invariant-loop-place : goal.invariant-loop-place
invariant-loop-place l = l.calendar.years ≡ l.fn.calendar.years
