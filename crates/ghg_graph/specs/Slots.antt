-- What a node takes, in the order of its formula.
use Rattle.std.specs.Prelude.{Bool, List, [], ◌∷◌, map}
use Rattle.ghg_categories.specs.declared.category.Category.{Category}
use Rattle.ghg_categories.specs.Tree.{stands_under}
use Rattle.ghg_cell.specs.declared.input.Input.{Input}
use Rattle.ghg_definitions.specs.Compilation.{counts_in_gross}
use Rattle.ghg_definitions.specs.Formulas.{Computed, Formula, Given, Operand, SumOf, Summed, ValueOf, Weighted}
use Rattle.ghg_graph.specs.declared.slots.Scope.{Scope}
use Rattle.ghg_graph.specs.declared.slots.Scope.TheVariants as scope
use Rattle.ghg_graph.specs.declared.slots.Slot.{Slot}
use Rattle.ghg_graph.specs.declared.slots.Slot.TheVariants as slot

abbrev pub slot_of : Operand Input → Slot
slot_of (Given x) = slot.Input x
slot_of (ValueOf n) = slot.Node n
slot_of (SumOf ns) = slot.Sum ns

-- a slot for each operand of an equation; the node and its warming potential; one sum
abbrev pub slots_of : Formula Input → List Slot
slots_of (Computed e operands) = map slot_of operands
slots_of (Weighted n x) = slot.Node n ∷ slot.Input x ∷ []
slots_of (Summed ns) = slot.Sum ns ∷ []

-- the total adds lines at the category
abbrev pub is_within : Scope → Category → Bool
is_within (scope.Under top) c = stands_under c top
is_within scope.Gross c = counts_in_gross c
