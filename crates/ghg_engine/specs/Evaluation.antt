-- What the evaluation of nodes gives.
use Rattle.std.specs.Prelude.{◌≡◌, ⊤, Bool, if◌then◌else◌, true, List, Option, Some, None, Result, Ok, Err}
use Rattle.std.specs.List.{Contains}
use Rattle.ghg_units.specs.declared.node.Node.{Node}
use Rattle.ghg_definitions.specs.Compilation.{compilation, is_node, sheet_of}
use Rattle.ghg_definitions.specs.Data.{Data}
use Rattle.ghg_definitions.specs.Nodes.{lesser_node}
use Rattle.ghg_definitions.specs.Trials.{Outcomes}
use Rattle.ghg_affected.specs.Counts.{StandOnce}
use Rattle.ghg_affected.specs.Patches.{IsInTurn, least_break}
use Rattle.ghg_engine.specs.declared.refusal.EngineRefusal.{EngineRefusal}
use Rattle.ghg_engine.specs.declared.refusal.EngineRefusal.TheVariants as refusal

-- the least node with this one, where it breaks
abbrev pub least_with : Option Node → Bool → Node → Option Node
least_with least breaks n = if breaks then Some (lesser_node n least) else least

-- the outcomes are those of the compilation at the nodes of the data that are not in the list
abbrev pub AreKept : Data → List Node → Outcomes → Type 0
AreKept m ns outcomes = (n : Node) → is_node m n ≡ true → (Contains ns n → ⊥) → outcomes n ≡ compilation m n

-- different nodes of the data, each behind those of its inputs that are among them
pub record AreInTurn (m : Data) (ns : List Node) : Type 0 where
  pub once : StandOnce ns
  pub turn : IsInTurn (sheet_of m) ns

-- Some nodes are evaluated, and the rest is not: what is found at the nodes is right but at the rest, what is
-- fresh is right at those that are done, and the least of these that breaks is known.
pub record IsSoFar (m : Data) (done rest : List Node) (found fresh : Outcomes) (least : Option Node)
    : Type 0 where
  pub agree : AreKept m rest found
  pub fresh_are : (n : Node) → Contains done n → fresh n ≡ compilation m n
  pub no_others : (n : Node) → (Contains done n → ⊥) → fresh n ≡ None
  pub turn : IsInTurn (sheet_of m) rest
  pub least_is : least ≡ least_break m done

-- the fresh cells are those of the nodes in the list, with their outcomes in the compilation, in which none
-- of them breaks
pub record AreEvaluated (m : Data) (ns : List Node) (fresh : Outcomes) : Type 0 where
  pub outcomes_are : (n : Node) → Contains ns n → fresh n ≡ compilation m n
  pub no_others : (n : Node) → (Contains ns n → ⊥) → fresh n ≡ None
  pub none : least_break m ns ≡ None

-- the node is the least of the list that breaks, if the refusal has one
abbrev pub NamesLeastBreak : Data → List Node → EngineRefusal → Type 0
NamesLeastBreak m ns (refusal.Overflow n) = least_break m ns ≡ Some n
NamesLeastBreak m ns refusal.Memory = ⊤

-- the fact holds, unless memory ran out
abbrev pub UnlessMemory : {A : Type 0} → Result A EngineRefusal → Type 0 → Type 0
UnlessMemory (Ok a) fact = fact
UnlessMemory (Err (refusal.Overflow n)) fact = fact
UnlessMemory (Err refusal.Memory) fact = ⊤
