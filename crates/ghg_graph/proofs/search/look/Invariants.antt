use Rattle.ghg_graph.proofs.Searching.{IsLookedTo}
use Rattle.ghg_graph.proofs.search.look.Given as goal

abbrev pub invariant-loop-target : goal.invariant-loop-target
invariant-loop-target l = IsLookedTo l.links l.start l.initial.search l.search l.head l.line l.target-items l.target-index
