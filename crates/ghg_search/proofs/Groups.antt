-- Nodes by series and year.
use Rattle.std.proofs.Common.{◌≡◌, ℕ, true, is_eq, refl, sym, ap, ◌∙◌}
use Rattle.std.specs.Ordering.{nat_cmp, ordering_then}
use Rattle.std.specs.declared.cmp.Ordering.TheVariants.{Less}
use Rattle.ghg_categories.specs.Tree.{code_of}
use Rattle.ghg_units.specs.declared.node.Node.{Node}
use Rattle.ghg_units.specs.declared.node.Node.TheVariants as node
use Rattle.ghg_data.specs.declared.year_set.YearSet.{YearSet}
use Rattle.ghg_data.specs.YearSet.{has_year}
use Rattle.ghg_definitions.specs.Nodes.{node_cmp, year_in}
use Rattle.ghg_definitions.proofs.Keys.{equal_by}
use Rattle.ghg_definitions.proofs.NodeOrder.{nodes_same}
use Rattle.ghg_graph.proofs.Marking.{equal_itself}
use Rattle.ghg_search.specs.Series.{IsOf}
use Rattle.ghg_columns.specs.Cells.{node_at, series_of, series_order}
use Rattle.ghg_columns.specs.declared.series.Series.{Series}
use Rattle.ghg_columns.specs.declared.series.Series.TheVariants as series

pub node_back : (n : Node) → node_at (series_of n) (year_in n) ≡ n
node_back (node.Line name year) = refl
node_back (node.Equiv name year) = refl
node_back (node.Total c year) = refl
node_back (node.Gross year) = refl

pub series_back : (s : Series) (year : ℕ) → series_of (node_at s year) ≡ s
series_back (series.Line name) year = refl
series_back (series.Equivalent name) year = refl
series_back (series.Total c) year = refl
series_back series.Gross year = refl

pub year_back : (s : Series) (year : ℕ) → year_in (node_at s year) ≡ year
year_back (series.Line name) year = refl
year_back (series.Equivalent name) year = refl
year_back (series.Total c) year = refl
year_back series.Gross year = refl

pub of_node : (s : Series) (years : YearSet) (n : Node) → IsOf s years n → n ≡ node_at s (year_in n)
of_node s years n of = sym (node_back n) ∙ ap (λ q. node_at q (year_in n)) of.0

pub at_of : (s : Series) (years : YearSet) (year : ℕ) → has_year years year ≡ true → IsOf s years (node_at s year)
at_of s years year h = (series_back s year, ap (has_year years) (year_back s year) ∙ h)

-- ---- order

-- nodes are ordered by their series, then by year
pub by_series : (a b : Series) (y z : ℕ) → node_cmp (node_at a y) (node_at b z) ≡ ordering_then (series_order a b) (nat_cmp y z)
by_series (series.Line l) (series.Line k) y z = refl
by_series (series.Equivalent l) (series.Equivalent k) y z = refl
by_series (series.Total l) (series.Total k) y z = refl
by_series series.Gross series.Gross y z = refl
by_series a b y z = refl

pub series_itself : (a : Series) → is_eq (series_order a a) ≡ true
series_itself (series.Line a) = equal_itself a
series_itself (series.Equivalent a) = equal_itself a
series_itself (series.Total c) = equal_itself (code_of c)
series_itself series.Gross = refl

-- series that compare alike are one
pub series_same : (a b : Series) → is_eq (series_order a b) ≡ true → a ≡ b
series_same a b e =
    sym (series_back a 0)
    ∙ ap series_of (nodes_same (node_at a 0) (node_at b 0) (by_series a b 0 0 ∙ ap (λ o. ordering_then o (nat_cmp 0 0)) (equal_by _ e)))
    ∙ series_back b 0

pub series_less : (a b : Series) (y z : ℕ) → series_order a b ≡ Less → node_cmp (node_at a y) (node_at b z) ≡ Less
series_less a b y z e = by_series a b y z ∙ ap (λ o. ordering_then o (nat_cmp y z)) e
