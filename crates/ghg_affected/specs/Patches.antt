-- What is said of affected nodes, of nodes in turn, and of what breaks.
use Rattle.std.specs.Prelude.{◌≡◌, ⊤, true, filter, List, [], ◌∷◌, Option, None}
use Rattle.std.specs.List.{Contains}
use Rattle.ghg_units.specs.declared.node.Node.{Node}
use Rattle.ghg_affected.specs.Affected.{IsAffected, affected_nodes}
use Rattle.ghg_definitions.specs.Compilation.{compilation, is_node, overflow, sheet_of}
use Rattle.ghg_definitions.specs.Data.{Data}
use Rattle.ghg_definitions.specs.Formulas.{Outcome, map_formula, outcome_of}
use Rattle.ghg_definitions.specs.Nodes.{least_node}
use Rattle.ghg_definitions.specs.Rings.{IsAcyclic}
use Rattle.ghg_definitions.specs.Sound.{IsWorkbook}
use Rattle.ghg_definitions.specs.Trials.{IsInput, Outcomes, Sheet, breaks, or_blank}

-- The affected nodes that are listed are all of them, and no other is listed.
abbrev pub AffectedNodesAreListed : Type 0
AffectedNodesAreListed = (old new : Data) (n : Node) →
    (Contains (affected_nodes old new) n → IsAffected old new n)
    × (IsAffected old new n → Contains (affected_nodes old new) n)

-- a node of two data has one outcome in both
pub record Keeps (old new : Data) (n : Node) : Type 0 where
  pub node : is_node old n ≡ true
  pub outcome : compilation old n ≡ compilation new n

-- A node of a workbook that is not affected was a node before, and keeps its outcome.
abbrev pub UnaffectedKeep : Type 0
UnaffectedKeep = (old new : Data) → IsWorkbook new → IsAcyclic old → IsAcyclic new →
    (n : Node) → is_node new n ≡ true → (IsAffected old new n → ⊥) → Keeps old new n

-- ---- nodes in turn

-- the outcome of the node's formula over the outcomes
abbrev pub outcome_over : {Source : Type 0} → Sheet Source → Outcomes → Node → Outcome
outcome_over sheet outcomes n =
    outcome_of (λ k. or_blank (outcomes k)) (map_formula sheet.given (sheet.formula n))

-- each of the list is a node, and none of its inputs is it or stands behind it
abbrev pub IsInTurn : {Source : Type 0} → Sheet Source → List Node → Type 0
IsInTurn sheet [] = ⊤
IsInTurn sheet (n ∷ ns) =
    (sheet.is_node n ≡ true) × ((k : Node) → IsInput sheet k n → Contains (n ∷ ns) k → ⊥) × IsInTurn sheet ns

-- ---- what breaks

-- Where nothing was over, each node that breaks is affected.
abbrev pub BreaksAreAffected : Type 0
BreaksAreAffected = (old new : Data) →
    IsWorkbook new → IsAcyclic old → IsAcyclic new → overflow old ≡ None →
    (n : Node) → breaks (sheet_of new) (compilation new) n ≡ true → IsAffected old new n

-- the least node of the list that breaks
abbrev pub least_break : Data → List Node → Option Node
least_break m ns = least_node (filter (breaks (sheet_of m) (compilation m)) ns)

-- So the node that is named is the least that breaks of any list of nodes with all affected ones.
abbrev pub OverflowsAreInPatches : Type 0
OverflowsAreInPatches = (old new : Data) →
    IsWorkbook new → IsAcyclic old → IsAcyclic new → overflow old ≡ None →
    (ns : List Node) → ((n : Node) → IsAffected old new n → Contains ns n) →
    overflow new ≡ least_break new ns
