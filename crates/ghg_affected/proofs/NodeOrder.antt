-- The order of nodes that the code has is that of the definitions.
use Rattle.std.proofs.Common.{◌≡◌, true, is_eq, refl, sym, ap, ◌∙◌}
use Rattle.std.proofs.Math.Path.{fun_ext}
use Rattle.std.proofs.lemmas.Cmp.{tied_itself}
use Rattle.std.specs.Ordering.{eq_by_cmp}
use Rattle.ghg_units.specs.declared.node.Node.{Node}
use Rattle.ghg_units.specs.declared.node.Node.TheVariants as node
use Rattle.ghg_definitions.specs.Nodes.{node_cmp}
use Rattle.ghg_definitions.proofs.Keys.{equal_by}
use Rattle.ghg_definitions.proofs.NodeOrder.{nodes_same, nodes_total}
use Rattle.ghg_affected.specs.NodeOrder.{node_order}

pub same_order : (a b : Node) → node_order a b ≡ node_cmp a b
same_order (node.Line l y) (node.Line k z) = refl
same_order (node.Line l y) (node.Equiv k z) = refl
same_order (node.Line l y) (node.Total k z) = refl
same_order (node.Line l y) (node.Gross z) = refl
same_order (node.Equiv l y) (node.Line k z) = refl
same_order (node.Equiv l y) (node.Equiv k z) = refl
same_order (node.Equiv l y) (node.Total k z) = refl
same_order (node.Equiv l y) (node.Gross z) = refl
same_order (node.Total l y) (node.Line k z) = refl
same_order (node.Total l y) (node.Equiv k z) = refl
same_order (node.Total l y) (node.Total k z) = refl
same_order (node.Total l y) (node.Gross z) = refl
same_order (node.Gross y) (node.Line k z) = refl
same_order (node.Gross y) (node.Equiv k z) = refl
same_order (node.Gross y) (node.Total k z) = refl
same_order (node.Gross y) (node.Gross z) = refl

pub orders : node_order ≡ node_cmp
orders = fun_ext (λ a. fun_ext (λ b. same_order a b))

-- nodes that compare alike are one
pub node_same : (a b : Node) → is_eq (node_order a b) ≡ true → a ≡ b
node_same a b e = nodes_same a b (sym (same_order a b) ∙ equal_by _ e)

pub node_itself : (a : Node) → is_eq (node_order a a) ≡ true
node_itself a = ap is_eq (same_order a a ∙ tied_itself nodes_total a)

pub node_ties : (a b : Node) → is_eq (node_order a b) ≡ eq_by_cmp node_cmp a b
node_ties a b = ap is_eq (same_order a b)
