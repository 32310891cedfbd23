-- The order of nodes that the code has.
use Rattle.std.specs.declared.cmp.Ordering.{Ordering}
use Rattle.ghg_units.specs.declared.node.Node.{Node}
use Rattle.ghg_units.specs.contracts.node.NodeOrd.TheImpl as derived

abbrev pub node_order : Node → Node → Ordering
node_order = (derived.ghosts).cmp
