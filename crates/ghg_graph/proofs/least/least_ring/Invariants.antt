use Rattle.std.proofs.Common.{ℕ, ◌<◌}
use Rattle.ghg_graph.specs.Links.{IsOnNoRing}
use Rattle.ghg_graph.proofs.least.least_ring.Given as goal

abbrev pub invariant-loop-line : goal.invariant-loop-line
invariant-loop-line l = (i : ℕ) → i < l.line → IsOnNoRing l.links i
