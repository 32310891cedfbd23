-- The names of the lines among nodes in order.
use Rattle.std.proofs.Common.{◌≡◌, ℕ, zero, suc, ◌+◌, Bool, false, List, [], ◌∷◌, filter_map, get_or, Some, Ordering, Less, Equal, Greater, refl, sym, ap, ◌∙◌, subst, inl, inr, arith}
use Rattle.std.specs.Cmp.Lexicographic.{nat_list_cmp_total, nat_list_eq_equiv, pointwise, texts_ties}
use Rattle.std.specs.List.{AllByRecursion, dedup}
use Rattle.std.specs.List.Sorted.{IsSorted, IsStrictlySortedBy}
use Rattle.std.specs.Ordering.{is_lt, nat_cmp, ordering_reverse, ordering_then}
use Rattle.std.specs.Prelude.{nat_eq}
use Rattle.std.proofs.lemmas.Option.{same_Some}
use Rattle.std.proofs.lemmas.List.Kept.{Contains-dedup, IsStrictlySortedBy-dedup}
use Rattle.ghg_units.specs.declared.node.Node.{Node}
use Rattle.ghg_units.specs.declared.node.Node.TheVariants as node
use Rattle.ghg_definitions.specs.Data.{Name, name_cmp}
use Rattle.ghg_definitions.specs.Listed.{IsListed}
use Rattle.ghg_definitions.specs.Nodes.{node_cmp}
use Rattle.ghg_definitions.proofs.Keys.{equal_by, names_same}
use Rattle.ghg_definitions.proofs.Listed.{contained, from_filter_map, listed, listed_filter_map}
use Rattle.ghg_layers.specs.Lines.{line_in}

not_before : (a b : Name) (y z : ℕ) → node_cmp (node.Line a y) (node.Line b z) ≡ Less → is_lt (name_cmp b a) ≡ false
not_before a b y z e = by (name_cmp a b) refl e
  where
    by : (o : Ordering) → name_cmp a b ≡ o → ordering_then o (nat_cmp y z) ≡ Less → is_lt (name_cmp b a) ≡ false
    by Less f e = ap is_lt (nat_list_cmp_total.antisymm b a ∙ ap ordering_reverse f)
    by Equal f e = ap is_lt (nat_list_cmp_total.antisymm b a ∙ ap ordering_reverse f)
    by Greater f e = absurd (cc)

sorted_more : (x : Name) (xs : List Name) → ((y : Name) → IsListed y xs → is_lt (name_cmp y x) ≡ false) → IsSorted name_cmp xs → IsSorted name_cmp (x ∷ xs)
sorted_more x [] low sorted k d h l = absurd (omega (arith, l))
sorted_more x (y ∷ xs) low sorted zero d h l = low y (inl refl)
sorted_more x (y ∷ xs) low sorted (suc k) d h l = let e : suc (k + 1) ≡ suc k + 1 = omega arith in subst (λ j. is_lt (name_cmp (get_or (x ∷ y ∷ xs) j d) (get_or (y ∷ xs) k d)) ≡ false) e (sorted k d (omega arith) (omega (arith, l)))

all_of : (P : Node → Type 0) (ns : List Node) → AllByRecursion P ns → (n : Node) → IsListed n ns → P n
all_of P [] all n i = absurd i
all_of P (x ∷ ns) all n (inl e) = subst P (sym e) all.0
all_of P (x ∷ ns) all n (inr i) = all_of P ns all.1 n i

pub names_sorted : (ns : List Node) → IsStrictlySortedBy node_cmp ns → IsSorted name_cmp (filter_map line_in ns)
unfolding IsStrictlySortedBy
names_sorted [] sorted = λ k d h l. absurd (omega (arith, l))
names_sorted (node.Line a y ∷ ns) sorted = sorted_more a (filter_map line_in ns) (λ b i.
    let from = from_filter_map line_in b ns i in by from.0 b (all_of _ ns sorted.0 from.0 from.1) from.2) (names_sorted ns sorted.1)
  where
    by : (n : Node) (b : Name) → node_cmp (node.Line a y) n ≡ Less → line_in n ≡ Some b → is_lt (name_cmp b a) ≡ false
    by (node.Line c z) b e is = subst (λ x. is_lt (name_cmp x a) ≡ false) (same_Some c b is) (not_before a c y z e)
    by (node.Equiv c z) b e is = absurd (cc)
    by (node.Total c z) b e is = absurd (cc)
    by (node.Gross z) b e is = absurd (cc)
names_sorted (node.Equiv a y ∷ ns) sorted = names_sorted ns sorted.1
names_sorted (node.Total a y ∷ ns) sorted = names_sorted ns sorted.1
names_sorted (node.Gross y ∷ ns) sorted = names_sorted ns sorted.1

abbrev pub same_names : Name → Name → Bool
same_names = pointwise nat_eq

pub names_strict : (ns : List Node) → IsStrictlySortedBy node_cmp ns → IsStrictlySortedBy name_cmp (dedup same_names (filter_map line_in ns))
names_strict ns sorted = IsStrictlySortedBy-dedup nat_list_cmp_total texts_ties (filter_map line_in ns) (names_sorted ns sorted)

pub name_kept : (ns : List Node) (name : Name) (year : ℕ) → IsListed (node.Line name year) ns → IsListed name (dedup same_names (filter_map line_in ns))
name_kept ns name year i =
    let there = listed_filter_map line_in (node.Line name year) name ns i refl in
    listed _ name (Contains-dedup nat_list_eq_equiv (λ x y e. names_same x y (equal_by (name_cmp x y) (sym (texts_ties x y) ∙ e))) (filter_map line_in ns) name (contained _ name there))
