use Rattle.std.proofs.Common.{◌≡◌, ◌∙◌, ◌-◌, ℕ, Bool, arith, inl, inr, refl, subst, suc, sym, true}
use Rattle.ghg_categories.specs.declared.category.Category.{Category}
use Rattle.ghg_data.specs.declared.year_set.YearSet.{YearSet}
use Rattle.ghg_data.specs.YearSet.{has_year}
use Rattle.ghg_definitions.specs.Compilation.{is_in_tree}
use Rattle.ghg_definitions.specs.Nodes.{year_in}
use Rattle.ghg_units.specs.declared.node.Node.{Node}
use Rattle.ghg_units.specs.declared.node.Node.TheVariants as node
use Rattle.ghg_search.specs.Found.{AreAdded, AreFound, IsIn}
use Rattle.ghg_search.specs.Search.{IsTotalAbove}
use Rattle.ghg_search.specs.Series.{IsOf, Within}
use Rattle.ghg_search.specs.declared.found.Found.{Found}
use Rattle.ghg_columns.specs.declared.series.Series.TheVariants as series
use Rattle.ghg_search.proofs.Adding.{added_more, added_weaker}
use Rattle.ghg_search.proofs.Groups.{of_node}
use Rattle.ghg_search.proofs.Tops.{above_here, above_up, from_above, not_above, same_some}
use Rattle.ghg_search.proofs.found.Found.+put_up.Goals as goal

-- the total of the category itself
module _ (levels : ℕ) (a : Category) (b : Bool) (e : b ≡ is_in_tree a) (years : YearSet) (old new : Found)
    (here : AreFound (λ n. (b ≡ true) × IsOf (series.Total a) years n) old new) where
  added_here : AreAdded (Within years (IsTotalAbove levels a)) old new
  added_here = added_weaker _ (Within years (IsTotalAbove levels a)) _ _
      (λ n h. (year_in n, h.1.1, above_here (year_in n) levels a b e n (h.0, of_node (series.Total a) years n h.1))) here.added

  found_here : (n : Node) (year : ℕ) → has_year years year ≡ true → n ≡ node.Total a year → is_in_tree a ≡ true → IsIn new n
  found_here n year h is on = here.found n (e ∙ on, subst (IsOf (series.Total a) years) (sym is) (refl, h))

pub returns-in_default : goal.returns-in_default
returns-in_default t c =
    let a = c.args.category in
    record {
      added = added_here c.args.levels a _ c.is_in_tree.ensures c.args.years.now _ _ c.in_ok-put_if.ensures;
      found = λ n h. elim (from_above h.0 c.args.levels a n h.2) [
        | inl here ↦ found_here c.args.levels a _ c.is_in_tree.ensures c.args.years.now _ _ c.in_ok-put_if.ensures n h.0 h.1 here.0 here.1
        | inr up ↦ absurd (not_above a up.1 (c.in_default.ensures ∙ up.3))
      ];
    }

pub returns-then-levels-eq0 : goal.returns-then-levels-eq0
returns-then-levels-eq0 t c =
    let a = c.args.category in
    record {
      added = added_here c.args.levels a _ c.is_in_tree.ensures c.args.years.now _ _ c.in_ok-put_if.ensures;
      found = λ n h. elim (from_above h.0 c.args.levels a n h.2) [
        | inl here ↦ found_here c.args.levels a _ c.is_in_tree.ensures c.args.years.now _ _ c.in_ok-put_if.ensures n h.0 h.1 here.0 here.1
        | inr up ↦ absurd (omega (arith, up.2, c.if-levels-eq0.true))
      ];
    }

pub returns : goal.returns
returns t c =
    let a = c.args.category in
    let P = Within c.args.years.now (IsTotalAbove c.args.levels a) in
    let some : c.args.levels ≡ suc (c.args.levels - 1) = omega (arith, c.if-levels-eq0.false) in
    let up = c.in_ok-put_up.ensures in
    record {
      added = added_more P _ _ _ (added_here c.args.levels a _ c.is_in_tree.ensures c.args.years.now _ _ c.in_ok-put_if.ensures)
          (added_weaker _ P _ _
          (λ n h. (h.0, h.1, above_up h.0 c.args.levels (c.args.levels - 1) a c.in-Some.above some c.in-Some.ensures n h.2)) up.added);
      found = λ n h. elim (from_above h.0 c.args.levels a n h.2) [
        | inl here ↦ up.added.kept n
            (found_here c.args.levels a _ c.is_in_tree.ensures c.args.years.now _ _ c.in_ok-put_if.ensures n h.0 h.1 here.0 here.1)
        | inr next ↦
            let level : next.0 ≡ c.args.levels - 1 = omega (arith, next.2) in
            let above : next.1 ≡ c.in-Some.above = same_some _ _ (sym next.3 ∙ sym c.in-Some.ensures) in
            up.found n (h.0, h.1, subst (λ k. IsTotalAbove k c.in-Some.above h.0 n) level (subst (λ p. IsTotalAbove next.0 p h.0 n) above next.4))
      ];
    }
