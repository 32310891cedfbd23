use Rattle.ghg_layers.proofs.Turning.{AreTurnsTo}
use Rattle.ghg_layers.proofs.turns.turns_of.Given as goal

abbrev pub invariant-loop-node : goal.invariant-loop-node
invariant-loop-node l = AreTurnsTo l.lines l.first l.nodes l.node-index l.turns.items
