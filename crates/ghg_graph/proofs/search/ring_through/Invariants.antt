use Rattle.std.proofs.Common.{◌-◌}
use Rattle.ghg_graph.specs.Trails.{IsSearch, extent}
use Rattle.ghg_graph.proofs.search.ring_through.Given as goal

abbrev pub invariant-loop-head : goal.invariant-loop-head
invariant-loop-head l = IsSearch l.links l.start l.search l.head

abbrev pub decreases-loop-head : goal.decreases-loop-head
decreases-loop-head l = extent l.search - l.head
