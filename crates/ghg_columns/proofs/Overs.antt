-- Outcomes in front of others, and nodes that are over.
use Rattle.std.proofs.Common.{◌≡◌, Bool, true, false, cond, is_eq, List, [], Option, Some, None, Err, refl, ap, ◌∙◌}
use Rattle.std.proofs.Math.Path.{fun_ext}
use Rattle.std.specs.BTreeMap.{is_at}
use Rattle.std.specs.BTreeSet.{BTreeSet, contains}
use Rattle.std.specs.Cmp.{eq_by_cmp_equiv}
use Rattle.std.specs.List.{list_any}
use Rattle.std.specs.Option.{option_or}
use Rattle.ghg_units.specs.declared.node.Node.{Node}
use Rattle.ghg_units.specs.declared.node.Node.TheVariants as node
use Rattle.ghg_affected.specs.Equalities.{same_node}
use Rattle.ghg_definitions.specs.Formulas.{Outcome}
use Rattle.ghg_definitions.specs.Nodes.{node_cmp}
use Rattle.ghg_definitions.specs.Trials.{Outcomes, is_over}
use Rattle.ghg_definitions.proofs.NodeOrder.{nodes_total}
use Rattle.ghg_columns.specs.Cells.{found_in, no_outcomes, with_outcome}
use Rattle.ghg_columns.specs.Fresh.{NoneOver, node_order, over_at}
use Rattle.ghg_columns.proofs.Places.{node_same}

-- ---- outcomes in front of others

module _ (front back : Outcomes) (n : Node) (x : Outcome) where
  pub put_in_front : found_in (with_outcome front n x) back ≡ with_outcome (found_in front back) n x
  put_in_front = fun_ext (λ k. by k (same_node k n))
    where
      by : (k : Node) (b : Bool) → option_or (cond b (Some x) (front k)) (back k) ≡ cond b (Some x) (option_or (front k) (back k))
      by k true = refl
      by k false = refl

  -- where there is none in front
  pub put_through : found_in front back n ≡ None → found_in front (with_outcome back n x) ≡ with_outcome (found_in front back) n x
  put_through none = fun_ext (λ k. by k (same_node k n) refl)
    where
      first : (o p : Option Outcome) → option_or o p ≡ None → o ≡ None
      first None p e = refl
      first (Some y) p e = absurd (cc)

      by : (k : Node) (b : Bool) → same_node k n ≡ b → option_or (front k) (cond b (Some x) (back k)) ≡ cond b (Some x) (option_or (front k) (back k))
      by k true same = ap (λ o. option_or o (Some x)) (ap front (node_same k n same) ∙ first (front n) (back n) none)
      by k false apart = refl

-- ---- the order of nodes that the code has is that of the definitions

same_order : (a b : Node) → node_order a b ≡ node_cmp a b
same_order (node.Line l y) (node.Line k z) = refl
same_order (node.Line l y) (node.Equiv k z) = refl
same_order (node.Line l y) (node.Total k z) = refl
same_order (node.Line l y) (node.Gross z) = refl
same_order (node.Equiv l y) (node.Line k z) = refl
same_order (node.Equiv l y) (node.Equiv k z) = refl
same_order (node.Equiv l y) (node.Total k z) = refl
same_order (node.Equiv l y) (node.Gross z) = refl
same_order (node.Total l y) (node.Line k z) = refl
same_order (node.Total l y) (node.Equiv k z) = refl
same_order (node.Total l y) (node.Total k z) = refl
same_order (node.Total l y) (node.Gross z) = refl
same_order (node.Gross y) (node.Line k z) = refl
same_order (node.Gross y) (node.Equiv k z) = refl
same_order (node.Gross y) (node.Total k z) = refl
same_order (node.Gross y) (node.Gross z) = refl

tied : (n k : Node) → is_at (node_order n) k ≡ same_node k n
tied n k = ap is_eq (same_order n k) ∙ (eq_by_cmp_equiv nodes_total).symm n k

-- ---- nodes that are over

is_there : Bool → Option Outcome
is_there b = cond b (Some (Err (record {}))) None

pub none_over : (over : BTreeSet Node) → over.keys ≡ [] → over_at over ≡ no_outcomes
unfolding is_there
none_over over none = fun_ext (λ k. ap (λ (ks : List Node). is_there (list_any (is_at (node_order k)) ks)) none)

pub one_over : (old new : BTreeSet Node) (n : Node) → ((k : Node) → contains node_order new k ≡ cond (is_at (node_order n) k) true (contains node_order old k)) → over_at new ≡ with_outcome (over_at old) n (Err (record {}))
unfolding is_there
one_over old new n updates = fun_ext (λ k. ap is_there (updates k ∙ ap (λ b. cond b true (contains node_order old k)) (tied n k)) ∙ by k (same_node k n))
  where
    by : (k : Node) (b : Bool) → is_there (cond b true (contains node_order old k)) ≡ cond b (Some (Err (record {}))) (over_at old k)
    by k true = refl
    by k false = refl

-- where none is over, the values are all
pub only_values : (values : Outcomes) (over : BTreeSet Node) → NoneOver (found_in values (over_at over)) → values ≡ found_in values (over_at over)
only_values values over none = fun_ext (λ k. by (values k) (contains node_order over k) (none k))
  where
    by : (o : Option Outcome) (b : Bool) → is_over (option_or o (cond b (Some (Err (record {}))) None)) ≡ false → o ≡ option_or o (cond b (Some (Err (record {}))) None)
    by None true e = absurd (cc)
    by None false e = refl
    by (Some x) b e = refl
