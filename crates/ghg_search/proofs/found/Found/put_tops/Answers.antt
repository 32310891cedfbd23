use Rattle.std.proofs.Common.{◌≡◌, ◌∙◌, inl, inr, refl, Some, subst, sym}
use Rattle.ghg_units.specs.declared.node.Node.TheVariants as node
use Rattle.ghg_definitions.specs.Data.{category}
use Rattle.ghg_definitions.specs.Nodes.{year_in}
use Rattle.ghg_search.specs.Search.{IsTaker, IsTakerOf}
use Rattle.ghg_search.specs.Series.{IsOf}
use Rattle.ghg_columns.specs.declared.series.Series.TheVariants as series
use Rattle.ghg_search.proofs.Adding.{added_more, added_weaker}
use Rattle.ghg_search.proofs.Groups.{of_node}
use Rattle.ghg_search.proofs.Takers.{equivalent_takers, gross_takes, total_takes}
use Rattle.ghg_search.proofs.found.Found.put_tops.Goals as goal

pub returns : goal.returns
returns g c =
    let m = g.R.Records.content c.args.records.now in
    let name = c.args.name.now in
    let years = c.args.years.now in
    let P = IsTakerOf m (series.Equivalent name) years in
    let at : category m name ≡ Some c.in-Some.category = sym c.in-Some.ensures.category in record {
      added = added_more P _ _ _
          (added_weaker _ P _ _ (λ n h. let of = h.1 in let y = year_in n in (
            node.Equiv name y,
            (refl, of.1),
            gross_takes m name y c.in-Some.category at (c.requires (node.Equiv name y) (refl, of.1)) c.counts_in_gross.result c.counts_in_gross.ensures n
                (h.0, of_node series.Gross years n of),
          )) c.in_ok-put_if.ensures.added)
          (added_weaker _ P _ _ (λ n h. (
            node.Equiv name h.0,
            (refl, h.1),
            total_takes m name h.0 c.in-Some.category at (c.requires (node.Equiv name h.0) (refl, h.1)) n h.2,
          )) c.in_ok-put_up.ensures.added);
      found = λ n h.
          let y = year_in h.0 in
          let i = subst (λ k. IsTaker m k n) (of_node (series.Equivalent name) years h.0 h.1) h.2 in
          elim (equivalent_takers m name y c.in-Some.category at (c.requires (node.Equiv name y) (refl, h.1.1)) n i) [
            | inl gross ↦ c.in_ok-put_up.ensures.added.kept n
                (c.in_ok-put_if.ensures.found n (c.counts_in_gross.ensures ∙ gross.0, subst (IsOf series.Gross years) (sym gross.1) (refl, h.1.1)))
            | inr above ↦ c.in_ok-put_up.ensures.found n (y, h.1.1, above)
          ];
    }
