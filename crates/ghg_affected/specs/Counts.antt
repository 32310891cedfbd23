-- How many nodes there are, and how many are affected: none is listed twice.
use Rattle.std.specs.Prelude.{⊤, List, [], ◌∷◌}
use Rattle.std.specs.List.{Contains}
use Rattle.ghg_affected.specs.Affected.{affected_nodes}
use Rattle.ghg_definitions.specs.Compilation.{nodes}
use Rattle.ghg_definitions.specs.Data.{Data}

-- none is in the list again
abbrev pub StandOnce : {A : Type 0} → List A → Type 0
StandOnce [] = ⊤
StandOnce (x ∷ xs) = (Contains xs x → ⊥) × StandOnce xs

-- No node is listed twice.
abbrev pub NodesStandOnce : Type 0
NodesStandOnce = (m : Data) → StandOnce (nodes m)

-- No affected node is listed twice.
abbrev pub AffectedNodesStandOnce : Type 0
AffectedNodesStandOnce = (old new : Data) → StandOnce (affected_nodes old new)
