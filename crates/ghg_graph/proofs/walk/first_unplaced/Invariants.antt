use Rattle.std.proofs.Common.{ℕ, ◌<◌, ◌≤◌, slice_index}
use Rattle.ghg_graph.specs.Walks.{IsMarked}
use Rattle.ghg_graph.proofs.walk.first_unplaced.Given as goal

abbrev pub invariant-loop-next : goal.invariant-loop-next
invariant-loop-next l = (k : ℕ) → l.from ≤ k → k < l.next → IsMarked l.placed (slice_index l.targets k)
