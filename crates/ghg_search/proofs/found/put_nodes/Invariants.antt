use Rattle.std.proofs.Common.{◌-◌, ◌^◌}
use Rattle.ghg_search.proofs.Ordered.{IsPut}
use Rattle.ghg_search.proofs.found.put_nodes.Given as goal

abbrev pub invariant-loop-year : goal.invariant-loop-year
invariant-loop-year l = IsPut l.series l.years l.fn.nodes.items l.last l.nodes.items

abbrev pub decreases-loop-year : goal.decreases-loop-year
decreases-loop-year l = 2 ^ 32 - l.last
