-- The nodes of new data that a change of the old ones affects.
use Rattle.std.specs.Prelude.{◌≡◌, ◌≢◌, ◌⊎◌, ℕ, zero, suc, Bool, true, false, not, ◌&&◌, ◌||◌, List, [], ◌∷◌, filter, length}
use Rattle.std.specs.List.{list_any}
use Rattle.ghg_cell.specs.declared.input.Input.{Input}
use Rattle.ghg_units.specs.declared.node.Node.{Node}
use Rattle.ghg_definitions.specs.Compilation.{first_year, formula, is_node, nodes, sheet_of}
use Rattle.ghg_definitions.specs.Data.{Data, span}
use Rattle.ghg_affected.specs.Equalities.{same_formula}
use Rattle.ghg_definitions.specs.Formulas.{Formula, inputs, map_formula}
use Rattle.ghg_definitions.specs.Lookups.{given}
use Rattle.ghg_definitions.specs.Trials.{IsInput}

-- the formula of a node, with what each source gives in its place
abbrev pub formula_with_inputs : Data → Node → Formula Input
formula_with_inputs m n = map_formula (given m) (formula m (first_year (span m)) n)

-- the node of the new data is no node of the old, or its formula is another there
pub record IsChanged (old new : Data) (n : Node) : Type 0 where
  pub node : is_node new n ≡ true
  pub differs : (is_node old n ≡ false) ⊎ (formula_with_inputs old n ≢ formula_with_inputs new n)

-- each of the list is an input of the next, and the last is the node
abbrev pub EndsWith : Data → List Node → Node → Type 0
EndsWith m [] n = ⊥
EndsWith m (k ∷ []) n = k ≡ n
EndsWith m (k ∷ j ∷ ks) n = IsInput (sheet_of m) k j × EndsWith m (j ∷ ks) n

-- a list of nodes of the new data, each an input of the next, leads from one that is changed to the node
pub record IsAffected (old new : Data) (n : Node) : Type 0 where
  pub first : Node
  pub others : List Node
  pub changed : IsChanged old new first
  pub leads : EndsWith new (first ∷ others) n

-- ---- which nodes these are

abbrev pub is_changed : Data → Data → Node → Bool
is_changed old new n =
    is_node new n
    && not (is_node old n && same_formula (formula_with_inputs old n) (formula_with_inputs new n))

-- the node is changed, or one of its inputs is affected, these followed down at most so many steps
unfoldable pub affected_within : Data → Data → ℕ → Node → Bool
affected_within old new zero n = is_changed old new n
affected_within old new (suc steps) n =
    is_changed old new n
    || (is_node new n
    && list_any (affected_within old new steps) (inputs (formula new (first_year (span new)) n)))

-- no list of different nodes is longer than the nodes are many
unfoldable pub affected_nodes : Data → Data → List Node
affected_nodes old new = filter (affected_within old new (length (nodes new))) (nodes new)
