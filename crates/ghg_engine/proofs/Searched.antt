-- What a search among nodes in order finds.
use Rattle.std.proofs.Common.{◌≡◌, ◌⊎◌, ℕ, ◌+◌, ◌<◌, ◌≤◌, inl, inr, true, false, List, HoldsAt, length, get_or, is_ok, Result, Ok, Err, Ordering, Less, Equal, Greater, is_eq, sym, ap, ◌∙◌, subst, arith}
use Rattle.std.specs.List.{list_any}
use Rattle.std.specs.List.Sorted.{IsBinarySearchResult, IsPartitionPoint, IsSearchInRange, IsSortedBy, IsStrictlySortedBy}
use Rattle.std.specs.Ordering.{eq_by_cmp, is_lt, ordering_reverse}
use Rattle.std.proofs.lemmas.Cmp.{tied_itself}
use Rattle.std.proofs.lemmas.List.Sorted.{searchable_from_sorted}
use Rattle.std.proofs.lemmas.Map.Keys.{Less-from_sorted}
use Rattle.ghg_units.specs.declared.node.Node.{Node}
use Rattle.ghg_affected.proofs.Bools.{never_so}
use Rattle.ghg_definitions.specs.Listed.{IsListed}
use Rattle.ghg_definitions.specs.Nodes.{node_cmp}
use Rattle.ghg_definitions.proofs.Keys.{equal_by}
use Rattle.ghg_definitions.proofs.Listed.{contained, from_any, listed, listed_any}
use Rattle.ghg_definitions.proofs.NodeOrder.{nodes_same, nodes_total}

less_not_equal : ◌≡◌ {A = Ordering} Less Equal → ⊥
less_not_equal e = cc

greater_not_equal : ◌≡◌ {A = Ordering} Greater Equal → ⊥
greater_not_equal e = cc

before_or_not : (i j : ℕ) → (i < j) ⊎ (j ≤ i)
before_or_not i j = grind arith

module _ (ns : List Node) (order : IsStrictlySortedBy node_cmp ns) (n : Node) where
  rises : IsSortedBy (λ a b. is_lt (node_cmp a b)) ns
  rises k d low high =
      let next : k < k + 1 = omega arith in
      ap is_lt (nodes_total.antisymm (get_or ns (k + 1) d) (get_or ns k d) ∙ ap ordering_reverse (Less-from_sorted node_cmp ns k (k + 1) d order next high))

  there : (i : ℕ) → i < length ns → HoldsAt (λ k. node_cmp k n ≡ Equal) ns i → list_any (eq_by_cmp node_cmp n) ns ≡ true
  there i within at = listed_any (eq_by_cmp node_cmp n) n ns (listed ns n (i, within, nodes_same (get_or ns i n) n (at n))) (ap is_eq (tied_itself nodes_total n))

  nowhere : (i : ℕ) → IsPartitionPoint (λ k. node_cmp k n ≡ Less) (λ k. node_cmp k n ≡ Greater) ns i → list_any (eq_by_cmp node_cmp n) ns ≡ false
  nowhere i split = never_so (list_any (eq_by_cmp node_cmp n) ns) (λ e.
      let found = from_any (eq_by_cmp node_cmp n) ns e in
      let at = contained ns n (subst (λ k. IsListed k ns) (sym (nodes_same n found.0 (equal_by (node_cmp n found.0) found.2))) found.1) in
      let equal : node_cmp (get_or ns at.0 n) n ≡ Equal = ap (λ k. node_cmp k n) at.2 ∙ tied_itself nodes_total n in
      elim (before_or_not at.0 i) [
        | inl before ↦ less_not_equal (sym (split.0 at.0 n (omega arith) before) ∙ equal)
        | inr behind ↦ greater_not_equal (sym (split.1 at.0 n behind at.1) ∙ equal)
      ])

  pub given_is : (r : Result ℕ ℕ) → IsSearchInRange r (length ns) → IsBinarySearchResult (λ k. node_cmp k n) ns r → is_ok r ≡ list_any (eq_by_cmp node_cmp n) ns
  given_is (Ok i) range found = sym (there i range found)
  given_is (Err i) range found = sym (nowhere i (found (searchable_from_sorted nodes_total (λ k. k) ns n rises)))
