use Rattle.std.proofs.Common.{◌-◌, ◌^◌}
use Rattle.ghg_search.proofs.Filtering.{AreNext}
use Rattle.ghg_search.proofs.years.next_years.Given as goal

abbrev pub invariant-loop-year : goal.invariant-loop-year
invariant-loop-year l = AreNext l.span l.years l.last l.next

abbrev pub decreases-loop-year : goal.decreases-loop-year
decreases-loop-year l = 2 ^ 32 - l.last
