use Rattle.std.proofs.Common.{◌≡◌, ℕ, ◌<◌, [], reverse}
use Rattle.ghg_graph.specs.Walks.{IsMarked, IsWalk}
use Rattle.ghg_graph.proofs.walk.order.Given as goal

abbrev pub invariant-loop-line : goal.invariant-loop-line
invariant-loop-line l = record {
  walk : IsWalk l.links l.walk (reverse l.walk.path.items);
  path : l.walk.path.items ≡ [];
  placed : (k : ℕ) → k < l.line → IsMarked l.walk.placed.items k;
}
