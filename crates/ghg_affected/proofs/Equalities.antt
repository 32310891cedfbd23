-- The tests of equality decide it.
use denote.Enum.Bare.{same_true, true_same}
use Rattle.std.proofs.Common.{◌≡◌, false, List, refl, sym, ap, ap₂, ◌∙◌, is_eq}
use Rattle.std.specs.Bool.{Decides}
use Rattle.std.specs.Ordering.{eq_by_cmp}
use Rattle.std.proofs.lemmas.Bool.Decides.{Decides-and, Decides-int_eq}
use Rattle.std.proofs.lemmas.Cmp.{tied_itself}
use Rattle.std.proofs.lemmas.Slice.Eq.{slice_eq-Decides}
use Rattle.ghg_cell.specs.declared.input.Input.{Input}
use Rattle.ghg_cell.specs.declared.input.Input.TheVariants.{Blank, Known}
use Rattle.ghg_equations.specs.declared.eq_id.EqId.{EqId}
use Rattle.ghg_equations.specs.contracts.eq_id.EqId.{the_type}
use Rattle.ghg_interval.specs.Bounds.{Bounds}
use Rattle.ghg_units.specs.declared.node.Node.{Node}
use Rattle.ghg_affected.specs.Equalities.{same_bounds, same_equation, same_formula, same_input, same_node, same_nodes, same_operand}
use Rattle.ghg_definitions.specs.Formulas.{Computed, Formula, Given, Operand, Summed, SumOf, ValueOf, Weighted}
use Rattle.ghg_definitions.specs.Nodes.{node_cmp}
use Rattle.ghg_definitions.proofs.Keys.{equal_by}
use Rattle.ghg_definitions.proofs.NodeOrder.{nodes_same, nodes_total}

never : {P : Type 0} → (P → ⊥) → Decides false P
never none = (λ e. absurd (cc), λ p. absurd (none p))

bounds_decide : (a b : Bounds) → Decides (same_bounds a b) (a ≡ b)
bounds_decide a b =
    let each = Decides-and _ _ (Decides-int_eq a.lo b.lo) (Decides-int_eq a.hi b.hi) in (
      λ e. let h = each.0 e in λ i. record { lo = h.0 i; hi = h.1 i },
      λ e. each.1 (ap (λ (c : Bounds). c.lo) e, ap (λ (c : Bounds). c.hi) e),
    )

input_decides : (x y : Input) → Decides (same_input x y) (x ≡ y)
input_decides Blank Blank = (λ e. refl, λ e. refl)
input_decides Blank (Known p r) = never (λ e. cc)
input_decides (Known point range) Blank = never (λ e. cc)
input_decides (Known point range) (Known p r) =
    let each = Decides-and _ _ (bounds_decide point p) (bounds_decide range r) in
    (λ e. let h = each.0 e in ap₂ (λ (a b : Bounds). Known a b) h.0 h.1, λ e. each.1 (cc, cc))

pub node_decides : (n k : Node) → Decides (same_node n k) (n ≡ k)
node_decides n k = (
  λ e. nodes_same n k (equal_by _ e),
  λ e. ap (eq_by_cmp node_cmp n) (sym e) ∙ ap is_eq (tied_itself nodes_total n),
)

pub nodes_decide : (ns ks : List Node) → Decides (same_nodes ns ks) (ns ≡ ks)
nodes_decide ns ks = slice_eq-Decides node_decides ns ks (same_nodes ns ks) refl

operand_decides : (x y : Operand Input) → Decides (same_operand x y) (x ≡ y)
operand_decides (Given x) (Given y) = let h = input_decides x y in (λ e. ap Given (h.0 e), λ e. h.1 (cc))
operand_decides (Given x) (ValueOf k) = never (λ e. cc)
operand_decides (Given x) (SumOf ks) = never (λ e. cc)
operand_decides (ValueOf n) (Given y) = never (λ e. cc)
operand_decides (ValueOf n) (ValueOf k) = let h = node_decides n k in (λ e. ap ValueOf (h.0 e), λ e. h.1 (cc))
operand_decides (ValueOf n) (SumOf ks) = never (λ e. cc)
operand_decides (SumOf ns) (Given y) = never (λ e. cc)
operand_decides (SumOf ns) (ValueOf k) = never (λ e. cc)
operand_decides (SumOf ns) (SumOf ks) = let h = nodes_decide ns ks in (λ e. ap SumOf (h.0 e), λ e. h.1 (cc))

equation_decides : (e f : EqId) → Decides (same_equation e f) (e ≡ f)
equation_decides e f = (λ h. same_true the_type tt e f h, λ h. true_same the_type e f h)

-- two formulas over inputs are told apart
pub formula_decides : (φ ψ : Formula Input) → Decides (same_formula φ ψ) (φ ≡ ψ)
unfolding same_formula
formula_decides (Computed e xs) (Computed f ys) =
    let each = Decides-and _ _ (equation_decides e f) (slice_eq-Decides operand_decides xs ys _ refl) in (
      λ h. let g = each.0 h in ap₂ (λ (a : EqId) (zs : List (Operand Input)). Computed a zs) g.0 g.1,
      λ h. each.1 (cc, cc),
    )
formula_decides (Computed e xs) (Weighted k y) = never (λ h. cc)
formula_decides (Computed e xs) (Summed ks) = never (λ h. cc)
formula_decides (Weighted n x) (Computed f ys) = never (λ h. cc)
formula_decides (Weighted n x) (Weighted k y) =
    let each = Decides-and _ _ (node_decides n k) (input_decides x y) in
    (λ h. let g = each.0 h in ap₂ (λ (a : Node) (z : Input). Weighted a z) g.0 g.1, λ h. each.1 (cc, cc))
formula_decides (Weighted n x) (Summed ks) = never (λ h. cc)
formula_decides (Summed ns) (Computed f ys) = never (λ h. cc)
formula_decides (Summed ns) (Weighted k y) = never (λ h. cc)
formula_decides (Summed ns) (Summed ks) = let h = nodes_decide ns ks in (λ e. ap Summed (h.0 e), λ e. h.1 (cc))
