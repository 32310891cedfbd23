use Rattle.std.proofs.Common.{◌≡◌, ◌∙◌, true, ap, ap₂, eqb-true, not, refl, sym}
use Rattle.std.proofs.lemmas.Bool.{eq-eqb}
use Rattle.std.specs.Cmp.Lexicographic.{bytes_decides}
use Rattle.std.specs.Str.{bytes_eq}
use Rattle.ghg_categories.specs.Tree.{is_same}
use Rattle.ghg_units.specs.contracts.node.NodePartialEq.TheImpl as equal
use Rattle.ghg_units.specs.declared.node.Node.{Node}
use Rattle.ghg_units.specs.declared.node.Node.TheVariants as node
use Rattle.ghg_definitions.proofs.Alike.{both, first_so, second_so}
use Rattle.ghg_definitions.proofs.NodeLists.{category_same}
use Rattle.ghg_affected.specs.Equalities.{same_node, same_operand}
use Rattle.ghg_affected.proofs.Equalities.{node_decides}
use Rattle.ghg_graph.specs.Operands.{operand_of}
use Rattle.ghg_graph.specs.declared.operands.Operand.TheVariants as operand
use Rattle.ghg_graph.proofs.Reaching.{same_truth}
use Rattle.ghg_graph.proofs.operands.differ.Goals as goal

-- the derived equality is that of the definitions
equal_same : (n k : Node) → (equal.ghosts).eq n k ≡ true → n ≡ k
equal_same (node.Line a y) (node.Line b z) e = ap₂ (λ m t. node.Line m t) ((bytes_decides a b).0 (first_so _ _ e)) (eqb-true y z (second_so (bytes_eq a b) _ e))
equal_same (node.Line a y) (node.Equiv b z) e = absurd (cc)
equal_same (node.Line a y) (node.Total b z) e = absurd (cc)
equal_same (node.Line a y) (node.Gross z) e = absurd (cc)
equal_same (node.Equiv a y) (node.Line b z) e = absurd (cc)
equal_same (node.Equiv a y) (node.Equiv b z) e = ap₂ (λ m t. node.Equiv m t) ((bytes_decides a b).0 (first_so _ _ e)) (eqb-true y z (second_so (bytes_eq a b) _ e))
equal_same (node.Equiv a y) (node.Total b z) e = absurd (cc)
equal_same (node.Equiv a y) (node.Gross z) e = absurd (cc)
equal_same (node.Total a y) (node.Line b z) e = absurd (cc)
equal_same (node.Total a y) (node.Equiv b z) e = absurd (cc)
equal_same (node.Total a y) (node.Total b z) e = ap₂ (λ c t. node.Total c t) ((category_same a b).0 (first_so _ _ e)) (eqb-true y z (second_so (is_same a b) _ e))
equal_same (node.Total a y) (node.Gross z) e = absurd (cc)
equal_same (node.Gross y) (node.Line b z) e = absurd (cc)
equal_same (node.Gross y) (node.Equiv b z) e = absurd (cc)
equal_same (node.Gross y) (node.Total b z) e = absurd (cc)
equal_same (node.Gross y) (node.Gross z) e = ap (λ t. node.Gross t) (eqb-true y z e)

equal_itself : (n : Node) → (equal.ghosts).eq n n ≡ true
equal_itself (node.Line a y) = both _ _ ((bytes_decides a a).1 refl) (eq-eqb y y refl)
equal_itself (node.Equiv a y) = both _ _ ((bytes_decides a a).1 refl) (eq-eqb y y refl)
equal_itself (node.Total a y) = both _ _ ((category_same a a).1 refl) (eq-eqb y y refl)
equal_itself (node.Gross y) = eq-eqb y y refl

node_eq : (n k : Node) → (equal.ghosts).eq n k ≡ same_node n k
node_eq n k = same_truth _ _
    (λ e. (node_decides n k).1 (equal_same n k e))
    (λ e. ap ((equal.ghosts).eq n) (sym ((node_decides n k).0 e)) ∙ equal_itself n)

pub returns-in-Value-Value : goal.returns-in-Value-Value
returns-in-Value-Value c =
    let h : c.ne-in-Value-Value.result ≡ not ((equal.ghosts).eq c.in-Value-Value.before c.in-Value-Value.after) = c.ne-in-Value-Value.ensures in
    h ∙ ap not (node_eq c.in-Value-Value.before c.in-Value-Value.after)
    ∙ sym (ap (λ o. not (same_operand (operand_of o) (operand_of c.args.is.now))) c.in-Value-Value.is-0
    ∙ ap (λ o. not (same_operand (operand_of (operand.Value c.in-Value-Value.before)) (operand_of o))) c.in-Value-Value.is-1)
