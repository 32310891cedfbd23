use Rattle.std.proofs.Common.{reverse}
use Rattle.ghg_graph.specs.Walks.{IsMarked, IsWalk, Keeps, work}
use Rattle.ghg_graph.proofs.walk.visit.Given as goal

abbrev pub invariant-loop-line : goal.invariant-loop-line
invariant-loop-line l = record {
  walk : IsWalk l.links l.walk (reverse l.walk.path.items);
  opened : IsMarked l.walk.opened.items l.start;
  placed : Keeps l.fn.walk.placed.items l.walk.placed.items;
}

abbrev pub decreases-loop-line : goal.decreases-loop-line
decreases-loop-line l = work l.walk
