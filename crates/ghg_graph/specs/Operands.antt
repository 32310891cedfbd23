-- What a binding gives.
use Rattle.std.specs.Prelude.{◌≡◌, ⊤, map, Option, Some}
use Rattle.ghg_cell.specs.declared.input.Input.{Input}
use Rattle.ghg_units.specs.declared.node.Node.TheVariants as node
use Rattle.ghg_units.specs.declared.row.Binding.{Binding}
use Rattle.ghg_units.specs.declared.row.Binding.TheVariants as bound
use Rattle.ghg_definitions.specs.Formulas as formula
use Rattle.ghg_graph.specs.declared.operands.Operand.{Operand}
use Rattle.ghg_graph.specs.declared.operands.Operand.TheVariants as operand

-- the operand of a formula
abbrev pub operand_of : Operand → formula.Operand Input
operand_of (operand.Given x) = formula.Given x
operand_of (operand.Value n) = formula.ValueOf n
operand_of (operand.Sum names year) = formula.SumOf (map (λ name. node.Line name year) names.now)

-- the names of a sum are those of the binding
abbrev pub AreBound : Option Binding → Operand → Type 0
AreBound b (operand.Sum names year) = b ≡ Some (bound.Sum names.now)
AreBound b other = ⊤
