-- The nodes of a layer, before and after they are evaluated.
use Rattle.std.specs.Prelude.{◌≡◌, ℕ, ◌+◌, ◌<◌, List, length, Option, None, Some, IsSomeAnd, slice_get, slice_index_or}
use Rattle.std.specs.List.{Contains}
use Rattle.ghg_units.specs.declared.node.Node.{Node}
use Rattle.ghg_definitions.specs.Data.{Data}
use Rattle.ghg_definitions.specs.Trials.{Outcomes}
use Rattle.ghg_evaluation.specs.Evaluation.{IsReady}
use Rattle.ghg_layers.specs.declared.buckets.Layers.{Layers}
use Rattle.ghg_layers.specs.Layers.{AreLayers}
use Rattle.ghg_shifts.specs.declared.evaluated.Evaluated.{Evaluated}
use Rattle.ghg_shifts.specs.declared.shifts.Shifts.{Shifts}
use Rattle.ghg_shifts.specs.Noted.{IsOutcomeOf}

-- some nodes by layers
abbrev pub AreLayersOfSome : Data → Layers → Type 0
AreLayersOfSome m l = (given : List Node) × AreLayers m given l

-- what is at hand for each of the nodes
abbrev pub AreReady : Data → Data → Outcomes → Shifts → List Node → Type 0
AreReady old new found shifts nodes = (n : Node) → Contains nodes n → IsReady old new found shifts n

-- what the node at the place gives
abbrev pub IsOutcomeAt : Data → List Node → ℕ → Evaluated → Type 0
IsOutcomeAt m nodes place e = (n : Node) → slice_get nodes place ≡ Some n → IsOutcomeOf m n e

-- what the nodes from a place on give
abbrev pub AreOutcomesFrom : Data → List Node → ℕ → List (Option Evaluated) → Type 0
AreOutcomesFrom m nodes start outcomes = (k : ℕ) → k < length outcomes →
    IsSomeAnd (slice_index_or outcomes k None) (IsOutcomeAt m nodes (start + k))
