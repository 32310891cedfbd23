-- What the evaluation of a node takes and gives.
use Rattle.std.specs.Prelude.{◌≡◌, ℕ, true, not, ◌&&◌, Option, Some}
use Rattle.std.specs.List.{list_any}
use Rattle.ghg_categories.specs.declared.category.Category.{Category}
use Rattle.ghg_units.specs.declared.node.Node.{Node}
use Rattle.ghg_definitions.specs.Compilation.{compilation, is_node, sheet_of}
use Rattle.ghg_definitions.specs.Data.{Data}
use Rattle.ghg_definitions.specs.Formulas.{inputs}
use Rattle.ghg_definitions.specs.Trials.{IsInput, Outcomes, Sheet, is_over}
use Rattle.ghg_affected.specs.Patches.{outcome_over}
use Rattle.ghg_shifts.specs.declared.evaluated.Evaluated.{Evaluated}
use Rattle.ghg_shifts.specs.declared.shifts.Shifts.{Shifts}
use Rattle.ghg_shifts.specs.Noted.{AreShifts, IsChange}
use Rattle.ghg_shifts.specs.Shifts.{total_at}

-- where data change, what is at hand for a node of the new ones: the outcomes of its inputs in their
-- compilation, and for a total the shifts of what it counts
pub record IsReady (old new : Data) (outcomes : Outcomes) (shifts : Shifts) (n : Node) : Type 0 where
  pub change : IsChange old new
  pub node : is_node new n ≡ true
  pub inputs_are : (k : Node) → IsInput (sheet_of new) k n → outcomes k ≡ compilation new k
  pub shifts_are : (top : Option Category) (year : ℕ) → n ≡ total_at top year →
      AreShifts old new year top shifts

-- the outcome of the node's formula over the outcomes, and whether it is over while no input is
pub record IsEvaluatedAt {Source : Type 0} (sheet : Sheet Source) (outcomes : Outcomes) (n : Node)
    (e : Evaluated) : Type 0 where
  pub outcome : e.outcome ≡ outcome_over sheet outcomes n
  pub breaks : e.breaks ≡
      (is_over (Some e.outcome) && not (list_any (λ k. is_over (outcomes k)) (inputs (sheet.formula n))))
