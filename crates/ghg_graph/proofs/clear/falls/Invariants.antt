use Rattle.ghg_graph.proofs.Falling.{FallsTo}
use Rattle.ghg_graph.proofs.clear.falls.Given as goal

abbrev pub invariant-loop-line : goal.invariant-loop-line
invariant-loop-line l = FallsTo l.links l.numbers l.line
