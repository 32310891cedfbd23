-- The inputs of a line: the lines that it takes in the same year, and those that it takes in the year before.
use Rattle.std.proofs.Common.{◌≡◌, ℕ, ◌-◌, ◌<◌, Bool, true, false, nat_le, leb-false, List, [], ◌∷◌, map, Option, Some, None, refl, sym, ap, subst, inl, inr, arith}
use Rattle.std.specs.List.{flat_map}
use Rattle.std.specs.Option.{option_map_or}
use Rattle.ghg_equations.specs.declared.eq_id.EqId.{EqId}
use Rattle.ghg_equations.specs.Table.{Quantity, parameters}
use Rattle.ghg_units.specs.declared.node.Node.{Node}
use Rattle.ghg_units.specs.declared.node.Node.TheVariants as node
use Rattle.ghg_units.specs.declared.row.Binding.{Binding}
use Rattle.ghg_units.specs.declared.row.Binding.TheVariants as bound
use Rattle.ghg_definitions.specs.Compilation.{bound_to, line_formula, previous}
use Rattle.ghg_definitions.specs.Data.{Data, Name, binding, line}
use Rattle.ghg_definitions.specs.Formulas.{Operand, inputs, nodes_in}
use Rattle.ghg_definitions.specs.Lookups.{Source}
use Rattle.ghg_definitions.specs.Listed.{IsListed}
use Rattle.ghg_definitions.specs.Rings.{taken_by}
use Rattle.ghg_definitions.proofs.Listed.{from_flat, from_map, listed_flat, listed_map}
use Rattle.ghg_graph.specs.Numbers.{taken_in}

-- the node is the value of one of the lines in the same year, or of one of the others in the year before
pub data IsFrom (now before : List Name) (first year : ℕ) (n : Node) : Type 0 where
  same : (k : Name) → IsListed k now → n ≡ node.Line k year → IsFrom now before first year n
  earlier : (k : Name) → IsListed k before → first < year → n ≡ node.Line k (year - 1) → IsFrom now before first year n

module _ (m : Data) (first year : ℕ) where
  abbrev nodes_of : Option Binding → List Node
  nodes_of b = nodes_in {A = Source} (bound_to m first year b)

  later : nat_le year first ≡ false → first < year
  later e = omega (arith, leb-false)

  by_previous : (k : Name) (b : Bool) → nat_le year first ≡ b → (n : Node) → IsListed n (nodes_in {A = Source} (previous b k year)) → IsFrom [] (k ∷ []) first year n
  by_previous k true e n i = absurd i
  by_previous k false e n (inl is) = earlier k (inl refl) (later e) is
  by_previous k false e n (inr i) = absurd i

  by_bound : (b : Option Binding) (n : Node) → IsListed n (nodes_of b) → IsFrom (taken_by b) (taken_in true b) first year n
  by_bound None n i = absurd i
  by_bound (Some (bound.Activity other)) n i = absurd i
  by_bound (Some (bound.Factor other)) n i = absurd i
  by_bound (Some (bound.Line k)) n (inl is) = same k (inl refl) is
  by_bound (Some (bound.Line k)) n (inr i) = absurd i
  by_bound (Some (bound.Prev k)) n i = by_previous k (nat_le year first) refl n i
  by_bound (Some (bound.Sum ks)) n i = let from = from_map (λ k. node.Line k year) n ks i in same from.0 from.1 from.2
  by_bound (Some (bound.Decay other)) n i = absurd i
  by_bound (Some (bound.Key notation)) n i = absurd i

  bound_now : (b : Option Binding) (k : Name) → IsListed k (taken_by b) → IsListed (node.Line k year) (nodes_of b)
  bound_now None k i = absurd i
  bound_now (Some (bound.Activity other)) k i = absurd i
  bound_now (Some (bound.Factor other)) k i = absurd i
  bound_now (Some (bound.Line j)) k (inl e) = inl (ap (λ x. node.Line x year) e)
  bound_now (Some (bound.Line j)) k (inr i) = absurd i
  bound_now (Some (bound.Prev j)) k i = absurd i
  bound_now (Some (bound.Sum ks)) k i = listed_map (λ x. node.Line x year) k ks i
  bound_now (Some (bound.Decay other)) k i = absurd i
  bound_now (Some (bound.Key notation)) k i = absurd i

  not_first : first < year → nat_le year first ≡ false
  not_first h = grind (arith, h)

  bound_before : first < year → (b : Option Binding) (k : Name) → IsListed k (taken_in true b) → IsListed (node.Line k (year - 1)) (nodes_of b)
  bound_before h None k i = absurd i
  bound_before h (Some (bound.Activity other)) k i = absurd i
  bound_before h (Some (bound.Factor other)) k i = absurd i
  bound_before h (Some (bound.Line j)) k i = absurd i
  bound_before h (Some (bound.Prev j)) k (inl e) = subst (λ b. IsListed (node.Line k (year - 1)) (nodes_in {A = Source} (previous b j year))) (sym (not_first h)) (inl (ap (λ x. node.Line x (year - 1)) e))
  bound_before h (Some (bound.Prev j)) k (inr i) = absurd i
  bound_before h (Some (bound.Sum ks)) k i = absurd i
  bound_before h (Some (bound.Decay other)) k i = absurd i
  bound_before h (Some (bound.Key notation)) k i = absurd i

  module _ (name : Name) where
    abbrev at : Quantity → Option Binding
    at q = binding m name q.name

    abbrev inputs_by : Option EqId → List Node
    inputs_by e = inputs (line_formula m first name year e)

    abbrev now_by : Option EqId → List Name
    now_by e = option_map_or (λ e. flat_map (λ q. taken_by (at q)) (parameters e)) e []

    abbrev before_by : Option EqId → List Name
    before_by e = option_map_or (λ e. flat_map (λ q. taken_in true (at q)) (parameters e)) e []

    pub line_inputs : (e : Option EqId) (n : Node) → IsListed n (inputs_by e) → IsFrom (now_by e) (before_by e) first year n
    line_inputs None n i = absurd i
    line_inputs (Some e) n i =
        let operand = from_flat (nodes_in {A = Source}) n (map (λ q. bound_to m first year (at q)) (parameters e)) i in
        let from = from_map (λ q. bound_to m first year (at q)) operand.0 (parameters e) operand.1 in
        elim (by_bound (at from.0) n (subst (λ (o : Operand Source). IsListed n (nodes_in o)) from.2 operand.2)) [
          | same k l is ↦ same k (listed_flat (λ q. taken_by (at q)) from.0 k (parameters e) from.1 l) is
          | earlier k l h is ↦ earlier k (listed_flat (λ q. taken_in true (at q)) from.0 k (parameters e) from.1 l) h is
        ]

    input_by : (e : EqId) (q : Quantity) (n : Node) → IsListed q (parameters e) → IsListed n (nodes_of (at q)) → IsListed n (inputs_by (Some e))
    input_by e q n i l = listed_flat (nodes_in {A = Source}) (bound_to m first year (at q)) n (map (λ q. bound_to m first year (at q)) (parameters e)) (listed_map (λ q. bound_to m first year (at q)) q (parameters e) i) l

    pub now_input : (e : Option EqId) (k : Name) → IsListed k (now_by e) → IsListed (node.Line k year) (inputs_by e)
    now_input None k i = absurd i
    now_input (Some e) k i = let from = from_flat (λ q. taken_by (at q)) k (parameters e) i in input_by e from.0 _ from.1 (bound_now (at from.0) k from.2)

    pub before_input : first < year → (e : Option EqId) (k : Name) → IsListed k (before_by e) → IsListed (node.Line k (year - 1)) (inputs_by e)
    before_input h None k i = absurd i
    before_input h (Some e) k i = let from = from_flat (λ q. taken_in true (at q)) k (parameters e) i in input_by e from.0 _ from.1 (bound_before h (at from.0) k from.2)
