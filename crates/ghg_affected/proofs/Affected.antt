-- The list of affected nodes has all of them and no other.
use Rattle.std.proofs.Common.{◌≡◌, ◌⊎◌, inl, inr, ℕ, zero, suc, Bool, true, false, not, ◌&&◌, List, [], ◌∷◌, ◌++◌, length, refl, sym, ◌∙◌, subst}
use Prim.{Dec, yes, no}
use Rattle.ghg_units.specs.declared.node.Node.{Node}
use Rattle.ghg_affected.specs.Affected.{EndsWith, IsAffected, IsChanged, affected_nodes, affected_within, formula_with_inputs, is_changed}
use Rattle.ghg_definitions.specs.Compilation.{first_year, formula, is_node, nodes, sheet_of}
use Rattle.ghg_definitions.specs.Data.{Data, span}
use Rattle.ghg_affected.specs.Equalities.{same_formula, same_node}
use Rattle.ghg_definitions.specs.Formulas.{inputs}
use Rattle.ghg_definitions.specs.Listed.{IsListed}
use Rattle.ghg_affected.specs.Patches.{AffectedNodesAreListed}
use Rattle.ghg_definitions.specs.Rings.{Leads}
use Rattle.ghg_definitions.specs.Trials.{IsInput}
use Rattle.ghg_definitions.proofs.Alike.{both, first_so, second_so}
use Rattle.ghg_definitions.proofs.Chains.{leading, within}
use Rattle.ghg_definitions.proofs.Depth.{or_else}
use Rattle.ghg_definitions.proofs.Descent.{leads_on}
use Rattle.ghg_affected.proofs.Bools.{either, or_first, or_second, true_not_false}
use Rattle.ghg_affected.proofs.Equalities.{formula_decides, node_decides}
use Rattle.ghg_definitions.proofs.Listed.{contained, from_any, from_filter, listed, listed_any, listed_filter}
use Rattle.ghg_definitions.proofs.NodeLists.{nodes_listed}

decide_node : (n k : Node) → Dec (n ≡ k)
decide_node n k = elim (or_else (same_node n k)) [
  | inl is ↦ yes ((node_decides n k).0 is)
  | inr apart ↦ no (λ e. true_not_false (sym ((node_decides n k).1 e) ∙ apart))
]

module _ (old new : Data) where
  -- ---- what is changed

  changed_by : (n : Node) (before same : Bool) → is_node old n ≡ before
      → same_formula (formula_with_inputs old n) (formula_with_inputs new n) ≡ same → is_node new n ≡ true
      → not (before && same) ≡ true → IsChanged old new n
  changed_by n false same was is node e = record { node = node; differs = inl was }
  changed_by n true false was is node e =
      record { node = node; differs = inr (λ h. true_not_false (sym ((formula_decides _ _).1 h) ∙ is)) }
  changed_by n true true was is node e = absurd (cc)

  pub is_so : (n : Node) → is_changed old new n ≡ true → IsChanged old new n
  is_so n e = changed_by n _ _ refl refl (first_so (is_node new n) _ e) (second_so (is_node new n) _ e)

  unchanged_by : (n : Node) (before same : Bool) → is_node old n ≡ before
      → same_formula (formula_with_inputs old n) (formula_with_inputs new n) ≡ same → IsChanged old new n
      → not (before && same) ≡ true
  unchanged_by n false same was is c = refl
  unchanged_by n true false was is c = refl
  unchanged_by n true true was is c = elim c.differs [
    | inl none ↦ absurd (true_not_false (sym was ∙ none))
    | inr apart ↦ absurd (apart ((formula_decides _ _).0 is))
  ]

  pub so_is : (n : Node) → IsChanged old new n → is_changed old new n ≡ true
  so_is n c = both _ _ c.node (unchanged_by n _ _ refl refl c)

  -- what is not changed was a node, with the same formula
  pub unchanged : (n : Node) → is_node new n ≡ true → (IsChanged old new n → ⊥)
      → (is_node old n ≡ true) × (formula_with_inputs old n ≡ formula_with_inputs new n)
  unchanged n is free = elim (or_else (is_node old n)) [
    | inr none ↦ absurd (free (record { node = is; differs = inl none }))
    | inl was ↦ elim (or_else (same_formula (formula_with_inputs old n) (formula_with_inputs new n))) [
      | inl same ↦ (was, (formula_decides _ _).0 same)
      | inr apart ↦ absurd (free (record
          { node = is; differs = inr (λ h. true_not_false (sym ((formula_decides _ _).1 h) ∙ apart)) }))
    ]
  ]

  -- ---- what is affected

  pub itself : (n : Node) → IsChanged old new n → IsAffected old new n
  itself n c = record { first = n; others = []; changed = c; leads = refl }

  ends_on : (first : Node) (ks : List Node) (k n : Node) → EndsWith new (first ∷ ks) k
      → IsInput (sheet_of new) k n → EndsWith new (first ∷ ks ++ n ∷ []) n
  ends_on first [] k n h i = (subst (λ j. IsInput (sheet_of new) j n) (sym h) i, refl)
  ends_on first (j ∷ ks) k n h i = (h.0, ends_on j ks k n h.1 i)

  pub through : (k n : Node) → IsAffected old new k → IsInput (sheet_of new) k n → IsAffected old new n
  through k n a i = record {
    first = a.first;
    others = a.others ++ n ∷ [];
    changed = a.changed;
    leads = ends_on a.first a.others k n a.leads i;
  }

  ends_node : (first : Node) (ks : List Node) (n : Node) → is_node new first ≡ true
      → EndsWith new (first ∷ ks) n → is_node new n ≡ true
  ends_node first [] n is h = subst (λ k. is_node new k ≡ true) h is
  ends_node first (j ∷ ks) n is h = ends_node j ks n h.0.node h.1

  pub affected_is_node : (n : Node) → IsAffected old new n → is_node new n ≡ true
  affected_is_node n a = ends_node a.first a.others n a.changed.node a.leads

  pub sound : (d : ℕ) (n : Node) → affected_within old new d n ≡ true → IsAffected old new n
  unfolding affected_within
  sound zero n e = itself n (is_so n e)
  sound (suc d) n e = elim (either (is_changed old new n) _ e) [
    | inl is ↦ itself n (is_so n is)
    | inr on ↦
        let found = from_any (affected_within old new d) (inputs (formula new (first_year (span new)) n))
        (second_so (is_node new n) _ on) in
        through found.0 n (sound d found.0 found.2)
        (record { node = first_so (is_node new n) _ on; among = contained _ found.0 found.1 })
  ]

  -- ---- from a node down to one that is changed

  abbrev Down : Node → Node → Type 0
  Down n k = IsInput (sheet_of new) k n

  backwards : (first : Node) (ks : List Node) (n : Node) → EndsWith new (first ∷ ks) n
      → (n ≡ first) ⊎ ((xs : List Node) × Leads Down (n ∷ xs) first)
  backwards first [] n h = inl (sym h)
  backwards first (j ∷ ks) n h = elim (backwards j ks n h.1) [
    | inl e ↦ inr ([], subst (λ x. Down x first) (sym e) h.0)
    | inr l ↦ inr (l.0 ++ j ∷ [], leads_on Down (n ∷ l.0) j first l.1 h.0)
  ]

  begins : (d : ℕ) (n : Node) → IsChanged old new n → affected_within old new d n ≡ true
  unfolding affected_within
  begins zero n c = so_is n c
  begins (suc d) n c = or_first (is_changed old new n) _ (so_is n c)

  one_more : (d : ℕ) (n k : Node) → Down n k → affected_within old new d k ≡ true
      → affected_within old new (suc d) n ≡ true
  unfolding affected_within
  one_more d n k i e = or_second (is_changed old new n) _
      (both _ _ i.node (listed_any (affected_within old new d) k
      (inputs (formula new (first_year (span new)) n)) (listed _ k i.among) e))

  node_among : (xs : List Node) (first k : Node) → Leads Down xs first → IsListed k xs
      → IsListed k (nodes new)
  node_among xs first k h i = let down = leading Down xs first k h i in
      listed (nodes new) k (nodes_listed new k down.1.node)

  abbrev Within : ℕ → Node → Node → Type 0
  Within d n k = IsChanged old new k → affected_within old new d n ≡ true

  pub complete : (n : Node) → IsAffected old new n → affected_within old new (length (nodes new)) n ≡ true
  complete n a = elim (backwards a.first a.others n a.leads) [
    | inl e ↦ begins (length (nodes new)) n (subst (IsChanged old new) (sym e) a.changed)
    | inr l ↦ within Down decide_node Within
        (λ d x y i c. one_more d x y i (begins d y c))
        (λ d x y z i h c. one_more d x y i (h c))
        (nodes new) n l.0 a.first (λ z j. node_among (n ∷ l.0) a.first z l.1 j) l.1 a.changed
  ]

  -- a node is affected, or it is not
  pub affected_or_not : (n : Node) → IsAffected old new n ⊎ (IsAffected old new n → ⊥)
  affected_or_not n = elim (or_else (affected_within old new (length (nodes new)) n)) [
    | inl is ↦ inl (sound (length (nodes new)) n is)
    | inr free ↦ inr (λ a. true_not_false (sym (complete n a) ∙ free))
  ]

pub affected_nodes_are_listed : AffectedNodesAreListed
unfolding affected_nodes
affected_nodes_are_listed old new n = (
  λ c. sound old new (length (nodes new)) n
      (from_filter (affected_within old new (length (nodes new))) n (nodes new) (listed _ n c)).1,
  λ a. contained _ n (listed_filter (affected_within old new (length (nodes new))) n (nodes new)
      (listed (nodes new) n (nodes_listed new n (affected_is_node old new n a))) (complete old new n a)),
)
