-- Nodes by layers: each behind those of its inputs that are given.
use Rattle.std.specs.Prelude.{◌≡◌, ℕ, ◌+◌, ◌<◌, ◌≤◌, true, nat_le, List, [], ◌∷◌, length, slice_get, Some}
use Rattle.std.specs.List.{Contains, count_by}
use Rattle.std.specs.List.Sorted.{IsPermutation}
use Rattle.std.specs.declared.cmp.Ordering.TheVariants.{Less}
use Rattle.ghg_units.specs.declared.node.Node.{Node}
use Rattle.ghg_definitions.specs.Compilation.{is_node, sheet_of}
use Rattle.ghg_definitions.specs.Data.{Data}
use Rattle.ghg_definitions.specs.Nodes.{node_cmp}
use Rattle.ghg_definitions.specs.Trials.{IsInput}
use Rattle.ghg_affected.specs.Counts.{StandOnce}
use Rattle.ghg_affected.specs.Patches.{IsInTurn}
use Rattle.ghg_layers.specs.declared.buckets.Layers.{Layers}

-- different nodes of the data
pub record AreDistinctNodes (m : Data) (given : List Node) : Type 0 where
  pub once : StandOnce given
  pub nodes : (n : Node) → Contains given n → is_node m n ≡ true

-- the layer of a place: as many layers end at it or before it
abbrev pub layer_of : List ℕ → ℕ → ℕ
layer_of ends place = count_by (λ end. nat_le end place) ends

-- the node stands in the layer
pub record StandsIn (l : Layers) (layer : ℕ) (n : Node) : Type 0 where
  pub place : ℕ
  pub there : slice_get l.nodes.items place ≡ Some n
  pub within : layer_of l.ends.items place ≡ layer

-- each end is behind the one before it, so that no layer is empty, and the last is the end of all
abbrev pub AreEnds : ℕ → List ℕ → ℕ → Type 0
AreEnds start [] all = start ≡ all
AreEnds start (end ∷ ends) all = (start < end) × AreEnds end ends all

-- none of the node's inputs is given
abbrev pub NoneGiven : Data → List Node → Node → Type 0
NoneGiven m given n = (k : Node) → Contains given k → IsInput (sheet_of m) k n → ⊥

-- the layer is the last that holds an input of the node
pub record IsLastWithInput (m : Data) (l : Layers) (n : Node) (i : ℕ) : Type 0 where
  pub input : Node
  pub of : IsInput (sheet_of m) input n
  pub holds : StandsIn l i input
  pub last : (k : Node) (j : ℕ) → IsInput (sheet_of m) k n → StandsIn l j k → j ≤ i

-- the given nodes by layers
pub record AreLayers (m : Data) (given : List Node) (l : Layers) : Type 0 where
  -- they are the nodes of the layers
  pub same : IsPermutation given l.nodes.items
  pub ends : AreEnds 0 l.ends.items (length l.nodes.items)
  -- a node stands in the first layer where none of its inputs is given
  pub first : (n : Node) → Contains given n → NoneGiven m given n → StandsIn l 0 n
  -- and otherwise in the layer just behind the last that holds one of them
  pub next : (n : Node) (i : ℕ) → Contains given n → IsLastWithInput m l n i → StandsIn l (i + 1) n
  -- so it stands behind each of them
  pub behind : (n k : Node) (i j : ℕ) → StandsIn l i n → StandsIn l j k → IsInput (sheet_of m) k n → j < i
  -- nodes of a layer stand in node order
  pub order : (i j : ℕ) (n k : Node) → i < j → layer_of l.ends.items i ≡ layer_of l.ends.items j →
      slice_get l.nodes.items i ≡ Some n → slice_get l.nodes.items j ≡ Some k → node_cmp n k ≡ Less

-- Nodes of the data by layers stand each behind those of its inputs that are among them.
abbrev pub LayersAreInTurn : Type 0
LayersAreInTurn = (m : Data) (given : List Node) (l : Layers) →
    ((n : Node) → Contains given n → is_node m n ≡ true) → AreLayers m given l →
    IsInTurn (sheet_of m) l.nodes.items
