use Rattle.ghg_graph.specs.Stops.{AreClear}
use Rattle.ghg_graph.proofs.clear.mark_clear.Given as goal

abbrev pub invariant-loop-line : goal.invariant-loop-line
invariant-loop-line l = AreClear l.links l.marks.items
