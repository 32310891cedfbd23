-- What nodes take are nodes.
use Rattle.std.specs.Prelude.{◌≡◌, true}
use Rattle.ghg_units.specs.declared.node.Node.{Node}
use Rattle.ghg_definitions.specs.Compilation.{is_node, sheet_of}
use Rattle.ghg_definitions.specs.Data.{Data}
use Rattle.ghg_definitions.specs.Sound.{IsWorkbook}
use Rattle.ghg_definitions.specs.Trials.{IsInput}

-- In a workbook each input of a node is a node.
abbrev pub InputsAreNodes : Type 0
InputsAreNodes = (m : Data) → IsWorkbook m → (k n : Node) → IsInput (sheet_of m) k n → is_node m k ≡ true
