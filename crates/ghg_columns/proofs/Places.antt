-- A node is told by its series and its year.
use Rattle.std.proofs.Common.{◌≡◌, ℕ, Bool, true, ◌&&◌, ◌==◌, refl, sym, ap, ap₂, subst, ◌∙◌, Ordering, Less, Equal, Greater, is_eq, eq-eqb, eqb-true}
use Rattle.std.proofs.lemmas.Cmp.{tied_itself}
use Rattle.std.specs.BTreeMap.{is_at}
use Rattle.std.specs.Cmp.{IsTotalOrder, both_ways}
use Rattle.std.specs.Ordering.{ordering_reverse, ordering_then}
use Rattle.ghg_categories.specs.Tree.{code_of}
use Rattle.ghg_units.specs.declared.node.Node.{Node}
use Rattle.ghg_units.specs.declared.node.Node.TheVariants as node
use Rattle.ghg_affected.specs.Equalities.{same_node}
use Rattle.ghg_definitions.specs.Data.{name_cmp}
use Rattle.ghg_definitions.specs.Nodes.{node_cmp, year_in}
use Rattle.ghg_definitions.proofs.Alike.{first_so, second_so}
use Rattle.ghg_definitions.proofs.Keys.{equal_by}
use Rattle.ghg_definitions.proofs.NodeOrder.{nodes_same, nodes_total}
use Rattle.ghg_columns.specs.declared.series.Series.{Series}
use Rattle.ghg_columns.specs.declared.series.Series.TheVariants as series
use Rattle.ghg_columns.specs.Cells.{series_of, series_order}

node_at : Series → ℕ → Node
node_at (series.Line name) year = node.Line name year
node_at (series.Equivalent name) year = node.Equiv name year
node_at (series.Total c) year = node.Total c year
node_at series.Gross year = node.Gross year

node_is : (n : Node) → node_at (series_of n) (year_in n) ≡ n
unfolding node_at
node_is (node.Line name year) = refl
node_is (node.Equiv name year) = refl
node_is (node.Total c year) = refl
node_is (node.Gross year) = refl

series_is : (s : Series) (year : ℕ) → series_of (node_at s year) ≡ s
unfolding node_at
series_is (series.Line name) year = refl
series_is (series.Equivalent name) year = refl
series_is (series.Total c) year = refl
series_is series.Gross year = refl

-- ---- the order of series is that of their nodes in one year

alone : (o : Ordering) → o ≡ ordering_then o Equal
alone Less = refl
alone Equal = refl
alone Greater = refl

ordered : (s t : Series) → series_order s t ≡ node_cmp (node_at s 0) (node_at t 0)
unfolding node_at
ordered (series.Line a) (series.Line b) = alone (name_cmp a b)
ordered (series.Line a) (series.Equivalent b) = refl
ordered (series.Line a) (series.Total b) = refl
ordered (series.Line a) series.Gross = refl
ordered (series.Equivalent a) (series.Line b) = refl
ordered (series.Equivalent a) (series.Equivalent b) = alone (name_cmp a b)
ordered (series.Equivalent a) (series.Total b) = refl
ordered (series.Equivalent a) series.Gross = refl
ordered (series.Total a) (series.Line b) = refl
ordered (series.Total a) (series.Equivalent b) = refl
ordered (series.Total a) (series.Total b) = alone (name_cmp (code_of a) (code_of b))
ordered (series.Total a) series.Gross = refl
ordered series.Gross (series.Line b) = refl
ordered series.Gross (series.Equivalent b) = refl
ordered series.Gross (series.Total b) = refl
ordered series.Gross series.Gross = refl

pub series_same : (s t : Series) → is_at (series_order s) t ≡ true → s ≡ t
series_same s t e = sym (series_is s 0) ∙ ap series_of (nodes_same (node_at s 0) (node_at t 0) (equal_by _ (sym (ap is_eq (ordered s t)) ∙ e))) ∙ series_is t 0

pub series_total : IsTotalOrder series_order
series_total = record {
  antisymm = λ s t. ordered s t ∙ nodes_total.antisymm (node_at s 0) (node_at t 0) ∙ ap ordering_reverse (sym (ordered t s));
  trans = λ s t u a b. ordered s u ∙ nodes_total.trans (node_at s 0) (node_at t 0) (node_at u 0) (sym (ordered s t) ∙ a) (sym (ordered t u) ∙ b);
  congr = λ s t u e. ordered s u ∙ nodes_total.congr (node_at s 0) (node_at t 0) (node_at u 0) (sym (ordered s t) ∙ e) ∙ sym (ordered t u);
}

pub series_itself : (s : Series) → is_at (series_order s) s ≡ true
series_itself s = ap is_eq (tied_itself series_total s)

-- ---- nodes

pub node_itself : (n : Node) → same_node n n ≡ true
node_itself n = ap is_eq (tied_itself nodes_total n)

pub node_same : (k n : Node) → same_node k n ≡ true → k ≡ n
node_same k n e = nodes_same k n (equal_by _ e)

module _ (s : Series) (year : ℕ) (n : Node) (of_series : series_of n ≡ s) (in_year : year_in n ≡ year) (k : Node) where
  abbrev is_there : Node → Bool
  is_there j = is_at (series_order s) (series_of j) && (year_in j == year)

  there : is_there n ≡ true
  there = ap₂ (λ a b. a && b) (ap (is_at (series_order s)) of_series ∙ series_itself s) (ap (λ y. y == year) in_year ∙ eq-eqb year year refl)

  is_one : is_there k ≡ true → k ≡ n
  is_one e = sym (node_is k)
      ∙ ap₂ node_at (sym (series_same s (series_of k) (first_so _ _ e)) ∙ sym of_series) (eqb-true (year_in k) year (second_so (is_at (series_order s) (series_of k)) _ e) ∙ sym in_year)
      ∙ node_is n

  -- a node is this one where it is of this series and in this year
  pub same_place : same_node k n ≡ is_there k
  same_place = both_ways _ _ (λ e. subst (λ j. is_there j ≡ true) (sym (node_same k n e)) there) (λ e. subst (λ j. same_node j n ≡ true) (sym (is_one e)) (node_itself n))
