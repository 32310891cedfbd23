-- No node is listed twice.
use Rattle.std.proofs.Common.{◌≡◌, inl, inr, ℕ, zero, suc, ◌+◌, ◌<◌, Bool, true, false, cond, not, ◌&&◌, List, [], ◌∷◌, ◌++◌, map, filter, length, Option, Some, None, refl, sym, ap, ◌∙◌, subst, Ordering, Less, Equal, arith}
use Rattle.std.specs.List.{list_any}
use Rattle.std.specs.List.Sorted.{IsStrictlySortedBy}
use Rattle.std.specs.Cmp.{tied_itself}
use Rattle.std.specs.Cmp.Lexicographic.{nat_list_cmp_total}
use Rattle.ghg_categories.specs.declared.category.Category.{Category}
use Rattle.ghg_categories.specs.Tree.{is_same, tree}
use Rattle.ghg_units.specs.declared.node.Node.{Node}
use Rattle.ghg_units.specs.declared.node.Node.TheVariants as node
use Rattle.ghg_units.specs.declared.row.Span.{Span}
use Rattle.ghg_affected.specs.Affected.{affected_nodes, affected_within}
use Rattle.ghg_definitions.specs.Compilation.{emits, gas_lines, in_years, nodes, years_from, years_of}
use Rattle.ghg_affected.specs.Counts.{AffectedNodesStandOnce, NodesStandOnce, StandOnce}
use Rattle.ghg_definitions.specs.Data.{Data, Name, line_names, name_cmp, span}
use Rattle.ghg_definitions.specs.Listed.{IsListed}
use Rattle.ghg_definitions.specs.Nodes.{kind_of}
use Rattle.ghg_affected.proofs.Bools.{true_not_false}
use Rattle.ghg_definitions.proofs.Alike.{first_so, not_so, second_so}
use Rattle.ghg_definitions.proofs.Lines.{lines_sorted}
use Rattle.ghg_definitions.proofs.Listed.{from_filter, from_map, in_either, listed, listed_any}
use Rattle.ghg_definitions.proofs.NodeLists.{category_same, from_each, from_years}
use Rattle.ghg_definitions.proofs.Rings.{is_before}

-- none is in the list again
abbrev pub Once : {A : Type 0} → List A → Type 0
Once [] = Unit {0}
Once (x ∷ xs) = (IsListed x xs → ⊥) × Once xs

once : {A : Type 0} (xs : List A) → Once xs → StandOnce xs
once [] h = tt
once (x ∷ xs) h = (λ c. h.0 (listed xs x c), once xs h.1)

once_both : {A : Type 0} (xs ys : List A) → Once xs → Once ys → ((x : A) → IsListed x xs → IsListed x ys → ⊥)
    → Once (xs ++ ys)
once_both [] ys h k apart = k
once_both (x ∷ xs) ys h k apart = (
  λ i. elim (in_either x xs ys i) [ inl j ↦ h.0 j | inr j ↦ apart x (inl refl) j ],
  once_both xs ys h.1 k (λ z i. apart z (inr i)),
)

once_map : {A B : Type 0} (f : A → B) → ((x y : A) → f x ≡ f y → x ≡ y) → (xs : List A) → Once xs
    → Once (map f xs)
once_map f same [] h = tt
once_map f same (x ∷ xs) h = (
  λ i. let from = from_map f (f x) xs i in
      h.0 (subst (λ z. IsListed z xs) (sym (same x from.0 from.2)) from.1),
  once_map f same xs h.1,
)

pub once_filter : {A : Type 0} (p : A → Bool) (xs : List A) → Once xs → Once (filter p xs)
once_filter p [] h = tt
once_filter {A = A} p (x ∷ xs) h = by (p x) (once_filter p xs h.1)
  where
    by : (b : Bool) → Once (filter p xs) → Once (cond b (x ∷ filter p xs) (filter p xs))
    by true k = (λ i. h.0 (from_filter p x xs i).0, k)
    by false k = k

-- ---- years, names and categories

once_years : (first count : ℕ) → Once (years_from first count)
once_years first zero = tt
once_years first (suc count) = (
  λ i. let from = from_years (first + 1) count first i in
      omega (arith, from.0),
  once_years (first + 1) count,
)

once_years_of : (s : Option Span) → Once (years_of s)
once_years_of None = tt
once_years_of (Some s) = once_years s.first _

not_less : (o : Ordering) → o ≡ Equal → o ≡ Less → ⊥
not_less o e f = cc

pub once_names : (names : List Name) → IsStrictlySortedBy name_cmp names → Once names
unfolding IsStrictlySortedBy
once_names [] h = tt
once_names (x ∷ names) h = (
  λ i. not_less _ (tied_itself nat_list_cmp_total x)
      (is_before x x names h.0 i),
  once_names names h.1,
)

all_apart : List Category → Bool
all_apart [] = true
all_apart (c ∷ cs) = not (list_any (is_same c) cs) && all_apart cs

once_apart : (cs : List Category) → all_apart cs ≡ true → Once cs
unfolding all_apart
once_apart [] e = tt
once_apart (c ∷ cs) e = (
  λ i. true_not_false (sym (listed_any (is_same c) c cs i ((category_same c c).1 refl))
      ∙ not_so _ (first_so (not (list_any (is_same c) cs)) _ e)),
  once_apart cs (second_so (not (list_any (is_same c) cs)) _ e),
)

pub once_tree : Once tree
unfolding all_apart
once_tree = once_apart tree refl

-- ---- nodes

module _ {A : Type 0} (to : A → ℕ → Node) (same : (x y : A) (s t : ℕ) → to x s ≡ to y t → (x ≡ y) × (s ≡ t))
    (years : List ℕ) (all_years : Once years) where
  once_in_years : (xs : List A) → Once xs → Once (in_years to years xs)
  once_in_years [] h = tt
  once_in_years (x ∷ xs) h = once_both (map (to x) years) (in_years to years xs)
      (once_map (to x) (λ s t e. (same x x s t e).1) years all_years)
      (once_in_years xs h.1)
      (λ n i j. let one = from_map (to x) n years i in let other = from_each to years xs n j in
      h.0 (subst (λ z. IsListed z xs) (sym (same x other.0 one.0 other.1 (sym one.2 ∙ other.4)).0) other.2))

of_kind : {A : Type 0} (to : A → ℕ → Node) (k : ℕ) → ((x : A) (year : ℕ) → kind_of (to x year) ≡ k)
    → (years : List ℕ) (xs : List A) (n : Node) → IsListed n (in_years to years xs) → kind_of n ≡ k
of_kind to k is years xs n i = let from = from_each to years xs n i in ap kind_of from.4 ∙ is from.0 from.1

module _ (m : Data) where
  abbrev years : List ℕ
  years = years_of (span m)

  abbrev lines : List Node
  lines = in_years node.Line years (line_names m)

  abbrev equivalents : List Node
  equivalents = in_years node.Equiv years (gas_lines m)

  abbrev totals : List Node
  totals = in_years node.Total years tree

  abbrev grosses : List Node
  grosses = map node.Gross years

  names_once : Once (line_names m)
  names_once = once_names (line_names m) (lines_sorted m)

  line_kind : (n : Node) → IsListed n lines → kind_of n ≡ 0
  line_kind = of_kind node.Line 0 (λ x y. refl) years (line_names m)

  equivalent_kind : (n : Node) → IsListed n equivalents → kind_of n ≡ 1
  equivalent_kind = of_kind node.Equiv 1 (λ x y. refl) years (gas_lines m)

  total_kind : (n : Node) → IsListed n totals → kind_of n ≡ 2
  total_kind = of_kind node.Total 2 (λ x y. refl) years tree

  gross_kind : (n : Node) → IsListed n grosses → kind_of n ≡ 3
  gross_kind n i = ap kind_of (from_map node.Gross n years i).2

  low_kind : (n : Node) → IsListed n (lines ++ equivalents) → kind_of n < 2
  low_kind n i = elim (in_either n lines equivalents i)
      [ inl j ↦ omega (arith, line_kind n j) | inr j ↦ omega (arith, equivalent_kind n j) ]

  lower_kind : (n : Node) → IsListed n (lines ++ equivalents ++ totals) → kind_of n < 3
  lower_kind n i = elim (in_either n (lines ++ equivalents) totals i)
      [ inl j ↦ omega (arith, low_kind n j) | inr j ↦ omega (arith, total_kind n j) ]

  nodes_once : Once (nodes m)
  nodes_once =
      once_both (lines ++ equivalents ++ totals) grosses
      (once_both (lines ++ equivalents) totals
      (once_both lines equivalents
      (once_in_years node.Line (λ x y s t e. (cc, cc)) years (once_years_of (span m))
      (line_names m) names_once)
      (once_in_years node.Equiv (λ x y s t e. (cc, cc)) years (once_years_of (span m)) (gas_lines m)
      (once_filter (emits m) (line_names m) names_once))
      (λ n i j. omega (arith, line_kind n i, equivalent_kind n j)))
      (once_in_years node.Total (λ x y s t e. (cc, cc)) years (once_years_of (span m)) tree once_tree)
      (λ n i j. omega (arith, low_kind n i, total_kind n j)))
      (once_map node.Gross (λ s t e. cc) years (once_years_of (span m)))
      (λ n i j. omega (arith, lower_kind n i, gross_kind n j))

pub nodes_stand_once : NodesStandOnce
nodes_stand_once m = once (nodes m) (nodes_once m)

pub affected_nodes_stand_once : AffectedNodesStandOnce
unfolding affected_nodes
affected_nodes_stand_once old new =
    once (affected_nodes old new) (once_filter (affected_within old new (length (nodes new))) (nodes new)
    (nodes_once new))
