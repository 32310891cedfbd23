-- Lists in which each node stands once.
use Rattle.std.proofs.Common.{◌≡◌, inl, inr, false, List, [], ◌∷◌, Ordering, Less, Equal, Greater, is_eq, refl, sym, ap, ◌∙◌, subst}
use Rattle.std.specs.List.{AllByRecursion, IsDistinct}
use Rattle.std.specs.List.Sorted.{IsPermutation, IsStrictlySortedBy}
use Rattle.std.specs.Ordering.{eq_by_cmp, ordering_reverse}
use Rattle.std.proofs.lemmas.Cmp.{tied_itself}
use Rattle.std.proofs.lemmas.Map.Keys.{IsDistinct-IsPermutation, IsDistinct-from_sorted, IsDistinct-head, IsDistinct-tail}
use Rattle.ghg_units.specs.declared.node.Node.{Node}
use Rattle.ghg_affected.specs.Counts.{StandOnce}
use Rattle.ghg_affected.proofs.Bools.{true_not_false}
use Rattle.ghg_definitions.specs.Listed.{IsListed}
use Rattle.ghg_definitions.specs.Nodes.{node_cmp}
use Rattle.ghg_definitions.proofs.Listed.{listed}
use Rattle.ghg_definitions.proofs.NodeOrder.{nodes_total}

flips : (a b : Node) → eq_by_cmp node_cmp a b ≡ eq_by_cmp node_cmp b a
flips a b = ap is_eq (nodes_total.antisymm a b) ∙ by (node_cmp b a)
  where
    by : (o : Ordering) → is_eq (ordering_reverse o) ≡ is_eq o
    by Less = refl
    by Equal = refl
    by Greater = refl

off_all : (n : Node) (ns : List Node) → AllByRecursion (λ k. eq_by_cmp node_cmp n k ≡ false) ns → IsListed n ns → ⊥
off_all n [] all i = i
off_all n (k ∷ ns) all i = elim i [
  | inl same ↦ true_not_false (sym (ap is_eq (tied_itself nodes_total n)) ∙ subst (λ x. eq_by_cmp node_cmp n x ≡ false) (sym same) all.0)
  | inr later ↦ off_all n ns all.1 later
]

once_distinct : (ns : List Node) → IsDistinct (eq_by_cmp node_cmp) ns → StandOnce ns
once_distinct [] differ = tt
once_distinct (n ∷ ns) differ = (
  λ c. off_all n ns (IsDistinct-head (eq_by_cmp node_cmp) n ns differ) (listed ns n c),
  once_distinct ns (IsDistinct-tail (eq_by_cmp node_cmp) n ns differ),
)

pub once_sorted : (ns : List Node) → IsStrictlySortedBy node_cmp ns → StandOnce ns
once_sorted ns order = once_distinct ns (IsDistinct-from_sorted node_cmp ns order)

-- so it is in any other order
pub once_moved : (ns moved : List Node) → IsStrictlySortedBy node_cmp ns → IsPermutation ns moved → StandOnce moved
once_moved ns moved order same = once_distinct moved (IsDistinct-IsPermutation (eq_by_cmp node_cmp) flips ns moved same (IsDistinct-from_sorted node_cmp ns order))
