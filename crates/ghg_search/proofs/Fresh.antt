-- All nodes of some years, and which years are new.
use Rattle.std.proofs.Common.{◌≡◌, ◌⊎◌, inl, inr, ℕ, Bool, true, false, not, ◌&&◌, is_some, Option, Some, refl, sym, ap, ◌∙◌, subst}
use Rattle.ghg_categories.specs.Tree.{tree}
use Rattle.ghg_categories.specs.declared.category.Category.{Category}
use Rattle.ghg_units.specs.declared.node.Node.{Node}
use Rattle.ghg_units.specs.declared.node.Node.TheVariants as node
use Rattle.ghg_units.specs.declared.row.Span.{Span}
use Rattle.ghg_units.specs.Year.{is_year}
use Rattle.ghg_affected.proofs.Bools.{never_so, true_not_false}
use Rattle.ghg_definitions.specs.Compilation.{emits, is_in_tree, is_node, is_year_of}
use Rattle.ghg_definitions.specs.Data.{Data, Name, line, span}
use Rattle.ghg_definitions.specs.Listed.{IsListed}
use Rattle.ghg_definitions.specs.Nodes.{year_in}
use Rattle.ghg_definitions.proofs.Alike.{both, first_so, not_so, second_so, so_not}
use Rattle.ghg_definitions.proofs.Depth.{or_else}
use Rattle.ghg_definitions.proofs.Listed.{contained, listed}
use Rattle.ghg_definitions.proofs.NodeLists.{emitting, tree_is}
use Rattle.ghg_search.specs.Found.{IsIn}
use Rattle.ghg_search.specs.Search.{AreKept, AreYearsOf, IsNodeIn, IsTotalOf}
use Rattle.ghg_search.specs.Series.{IsOf, Within}
use Rattle.ghg_data.specs.YearSet.{has_year}
use Rattle.ghg_search.specs.declared.found.Found.{Found}
use Rattle.ghg_columns.specs.declared.series.Series.TheVariants as series
use Rattle.ghg_data.specs.declared.year_set.YearSet.{YearSet}
use Rattle.ghg_definitions.specs.Sound.{IsWorkbook}
use Rattle.ghg_graph.proofs.YearNodes.{span_is}
use Rattle.ghg_search.proofs.Groups.{of_node}
use Rattle.ghg_search.proofs.Spans.{of_span_is}

-- the line and, where it emits, its equivalent are found in the years
abbrev pub AreLineNodes : Data → Found → Name → YearSet → Type 0
AreLineNodes m f name years = (year : ℕ) → has_year years year ≡ true
    → IsIn f (node.Line name year) × (emits m name ≡ true → IsIn f (node.Equiv name year))

module _ (m : Data) (years : YearSet) (of_m : AreYearsOf m years) where
  pub line_nodes : (name : Name) → is_some (line m name) ≡ true → (n : Node) → IsOf (series.Line name) years n → IsNodeIn m years n
  line_nodes name is n of =
      (subst (λ k. is_node m k ≡ true) (sym (of_node (series.Line name) years n of)) (both _ _ is (of_m (year_in n) of.1)), of.1)

  pub equivalent_nodes : (name : Name) (b : Bool) → b ≡ emits m name → (n : Node)
      → (b ≡ true) × IsOf (series.Equivalent name) years n → IsNodeIn m years n
  equivalent_nodes name b e n h =
      let of = h.1 in
      (subst (λ k. is_node m k ≡ true) (sym (of_node (series.Equivalent name) years n of)) (both _ _ (sym e ∙ h.0) (of_m (year_in n) of.1)), of.1)

  pub total_nodes : (n : Node) → Within years (IsTotalOf tree) n → IsNodeIn m years n
  total_nodes n h =
      let t = h.2 in (
        subst (λ k. is_node m k ≡ true) (sym t.2) (both _ _ ((tree_is t.0).1 (contained tree t.0 t.1)) (of_m h.0 h.1)),
        subst (λ k. has_year years (year_in k) ≡ true) (sym t.2) h.1,
      )

  pub gross_nodes : (n : Node) → IsOf series.Gross years n → IsNodeIn m years n
  gross_nodes n of = (subst (λ k. is_node m k ≡ true) (sym (of_node series.Gross years n of)) (of_m (year_in n) of.1), of.1)

pub line_nodes_kept : (m : Data) (years : YearSet) (f g : Found) (name : Name) → ((n : Node) → IsIn f n → IsIn g n)
    → AreLineNodes m f name years → AreLineNodes m g name years
line_nodes_kept m years f g name kept are y h =
    (kept (node.Line name y) (are y h).0, λ e. kept (node.Equiv name y) ((are y h).1 e))

-- where all lines, totals and gross totals are found, all nodes are
pub all_nodes : (m : Data) (years : YearSet) (f : Found)
    → ((name : Name) → is_some (line m name) ≡ true → AreLineNodes m f name years)
    → ((top : Category) → IsListed top tree → (y : ℕ) → has_year years y ≡ true → IsIn f (node.Total top y))
    → ((n : Node) → IsOf series.Gross years n → IsIn f n) → (n : Node) → IsNodeIn m years n → IsIn f n
all_nodes m years f lines totals gross (node.Line name y) is = (lines name (first_so (is_some (line m name)) _ is.0) y is.1).0
all_nodes m years f lines totals gross (node.Equiv name y) is =
    let on = first_so (emits m name) _ is.0 in (lines name (emitting m name on) y is.1).1 on
all_nodes m years f lines totals gross (node.Total top y) is =
    totals top (listed tree top ((tree_is top).0 (first_so (is_in_tree top) _ is.0))) y is.1
all_nodes m years f lines totals gross (node.Gross y) is = gross (node.Gross y) (refl, is.1)

-- ---- years that are new, and the others

module _ (old new : Data) (inventory : Span) (workbook : IsWorkbook new) (at : Some inventory ≡ span new) (o : Option Span) (was : o ≡ span old)
    (all before fresh kept : YearSet)
    (all_only : (y : ℕ) → has_year all y ≡ true → (is_year y ≡ true) × (is_year_of (Some inventory) y ≡ true))
    (all_all : (y : ℕ) → is_year y ≡ true → is_year_of (Some inventory) y ≡ true → has_year all y ≡ true)
    (before_only : (y : ℕ) → has_year before y ≡ true → (is_year y ≡ true) × (is_year_of o y ≡ true))
    (before_all : (y : ℕ) → is_year y ≡ true → is_year_of o y ≡ true → has_year before y ≡ true)
    (fresh_is : (y : ℕ) → has_year fresh y ≡ has_year all y && not (has_year before y))
    (kept_is : (y : ℕ) → has_year kept y ≡ has_year all y && not (has_year fresh y)) where
  in_all : (y : ℕ) → has_year kept y ≡ true → has_year all y ≡ true
  in_all y h = first_so (has_year all y) _ (sym (kept_is y) ∙ h)

  now_in : (y : ℕ) → has_year all y ≡ true → is_year_of (span new) y ≡ true
  now_in y h = ap (λ s. is_year_of s y) (sym at) ∙ (all_only y h).1

  pub fresh_of_new : AreYearsOf new fresh
  fresh_of_new y h = now_in y (first_so (has_year all y) _ (sym (fresh_is y) ∙ h))

  pub fresh_off : (y : ℕ) → has_year fresh y ≡ true → is_year_of (span old) y ≡ false
  fresh_off y h =
      let on : has_year all y ≡ true = first_so (has_year all y) _ (sym (fresh_is y) ∙ h) in
      never_so _ (λ e. true_not_false (sym (before_all y (all_only y on).0 (ap (λ s. is_year_of s y) was ∙ e))
      ∙ not_so _ (second_so (has_year all y) _ (sym (fresh_is y) ∙ h))))

  was_in : (y : ℕ) → has_year before y ≡ true → is_year_of (span old) y ≡ true
  was_in y h = ap (λ s. is_year_of s y) (sym was) ∙ (before_only y h).1

  kept_before : (y : ℕ) → has_year kept y ≡ true → is_year_of (span old) y ≡ true
  kept_before y h = elim (or_else (has_year before y)) [
    | inl is ↦ was_in y is
    | inr off ↦ absurd (true_not_false (sym (fresh_is y ∙ both _ _ (in_all y h) (so_not _ off))
        ∙ not_so _ (second_so (has_year all y) _ (sym (kept_is y) ∙ h))))
  ]

  pub are_kept : AreKept old new kept
  are_kept y h = ((all_only y (in_all y h)).0, kept_before y h, now_in y (in_all y h))

  pub parted : (y : ℕ) → is_year_of (span new) y ≡ true
      → ((is_year_of (span old) y ≡ true) × (has_year kept y ≡ true)) ⊎ (has_year fresh y ≡ true)
  parted y within =
      let here : is_year_of (Some inventory) y ≡ true = ap (λ s. is_year_of s y) at ∙ within in
      let on : has_year all y ≡ true = all_all y (of_span_is inventory (span_is new inventory workbook (sym at)) y here) here in
      elim (or_else (has_year before y)) [
        | inl is ↦ inl (was_in y is, kept_is y ∙ both _ _ on (so_not _ (fresh_is y ∙ ap (λ b. has_year all y && not b) is ∙ ap (λ b. b && false) on)))
        | inr off ↦ inr (fresh_is y ∙ both _ _ on (so_not _ off))
      ]
