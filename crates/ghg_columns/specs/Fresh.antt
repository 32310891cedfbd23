-- Cells of nodes that are evaluated anew.
use Rattle.std.specs.Prelude.{◌≡◌, false, if◌then◌else◌, None, Some, Err}
use Rattle.std.specs.BTreeSet.{BTreeSet, contains}
use Rattle.std.specs.declared.cmp.Ordering.{Ordering}
use Rattle.ghg_units.specs.declared.node.Node.{Node}
use Rattle.ghg_units.specs.contracts.node.NodeOrd.TheImpl as derived_of_nodes
use Rattle.ghg_definitions.specs.Trials.{Outcomes, is_over}
use Rattle.ghg_columns.specs.declared.cells.Cells.{Cells}
use Rattle.ghg_columns.specs.declared.fresh.FreshCells.{FreshCells}
use Rattle.ghg_columns.specs.Cells.{HasRoomForAll, cells_in, found_in}
use Rattle.ghg_columns.specs.Written.{column_in}

-- the order that the code has
abbrev pub node_order : Node → Node → Ordering
node_order = (derived_of_nodes.ghosts).cmp

-- each of the nodes is over, and no other has an outcome
abbrev pub over_at : BTreeSet Node → Outcomes
over_at over n = if contains node_order over n then Some (Err (record {})) else None

-- the outcome of a node that has a fresh cell: its value, or that it is over
abbrev pub fresh_at : FreshCells → Outcomes
fresh_at fresh = found_in (cells_in (column_in fresh.values)) (over_at fresh.over)

-- no outcome is over
abbrev pub NoneOver : Outcomes → Type 0
NoneOver outcomes = (n : Node) → is_over (outcomes n) ≡ false

-- the values of the fresh cells can be taken over without memory
abbrev pub HasRoomFor : Cells → FreshCells → Type 0
HasRoomFor cells fresh = HasRoomForAll cells (column_in fresh.values)
