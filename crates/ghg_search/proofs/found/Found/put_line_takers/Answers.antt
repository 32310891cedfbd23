use Rattle.std.proofs.Common.{◌≡◌, ◌∙◌, ◌+◌, ap, arith, false, inl, inr, is_some, refl, subst, sym, true, Some}
use Rattle.ghg_units.specs.declared.node.Node.TheVariants as node
use Rattle.ghg_definitions.specs.Compilation.{emits, is_node, is_year_of}
use Rattle.ghg_definitions.specs.Data.{line}
use Rattle.ghg_definitions.specs.Nodes.{year_in}
use Rattle.ghg_definitions.proofs.Alike.{first_so, second_so}
use Rattle.ghg_search.specs.Found.{IsIn}
use Rattle.ghg_search.specs.Search.{IsTaker, IsTakerOf}
use Rattle.ghg_columns.specs.declared.series.Series.TheVariants as series
use Rattle.ghg_search.proofs.Adding.{added_more, added_weaker}
use Rattle.ghg_search.proofs.Groups.{of_node}
use Rattle.ghg_search.proofs.Takers.{equivalent_taken, line_takers, taker_is}
use Rattle.ghg_search.proofs.Spans.{first_is, is_within, within_is}
use Rattle.ghg_search.proofs.found.Found.put_line_takers.Goals as goal

pub returns : goal.returns
returns g c =
    let m = g.R.Records.content c.args.records.now in
    let name = c.args.name.now in
    let years = c.args.years.now in
    let span = c.args.inventory in
    let P = IsTakerOf m (series.Line name) years in record {
      added = added_more P _ _ _ (added_more P _ _ _
          (added_weaker _ P _ _ (λ n h. let of = h.1 in let y = year_in n in (
            node.Line name y,
            (refl, of.1),
            equivalent_taken m name y c.is_some-emits.result (c.is_some-emits.ensures ∙ ap is_some c.line_gas.ensures)
                (second_so (is_some (line m name)) _ (c.requires.nodes (node.Line name y) (refl, of.1))) n
                (h.0, of_node (series.Equivalent name) years n of),
          )) c.in_ok-put_if.ensures.added)
          (added_weaker _ P _ _ (λ n h. let t = h.2 in (
            node.Line name h.0,
            (refl, h.1),
            subst (IsTaker m (node.Line name h.0)) (sym t.1)
                (taker_is m name h.0 h.0 false t.0 t.2 (second_so (is_some (line m name)) _ (c.requires.nodes (node.Line name h.0) (refl, h.1)))
                (λ e. refl) (λ e. absurd (cc))),
          )) c.in_ok-put_each.ensures.added))
          (added_weaker _ P _ _ (λ n h.
          let t = h.2 in
          let before = c.next_years-next.ensures.only h.0 h.1 in
          let in_years = within_is m span c.requires.span before.0 (second_so (is_some (line m name)) _ (c.requires.nodes (node.Line name before.0) (refl, before.1))) in (
            node.Line name before.0,
            (refl, before.1),
            subst (IsTaker m (node.Line name before.0)) (sym t.1)
                (taker_is m name before.0 h.0 true t.0 t.2
                (is_within m span c.requires.span h.0 (omega (arith, in_years.0, before.2)) (omega (arith, before.2, before.3)))
                (λ e. absurd (cc))
                (λ e. let first = first_is m span c.requires.span before.0 in_years.0 in (omega (arith, first, before.2), before.2))),
          )) c.in_ok-put_each-2.ensures.added);
      found = λ n h.
          let y = year_in h.0 in
          let i = subst (λ k. IsTaker m k n) (of_node (series.Line name) years h.0 h.1) h.2 in
          elim (line_takers m name y n i) [
            | inl t ↦ elim t.3 [
              | inl now ↦ c.in_ok-put_each-2.ensures.added.kept n
                  (c.in_ok-put_each.ensures.found n (y, h.1.1, (t.0, t.2 ∙ ap (λ z. node.Line t.0 z) now.1, now.0)))
              | inr next ↦
                  let of_taker = second_so (is_some (line m t.0)) _ (subst (λ k. is_node m k ≡ true) t.2 i.node) in
                  let in_years = within_is m span c.requires.span t.1 of_taker in
                  let within : is_year_of (Some span) y ≡ true = ap (λ s. is_year_of s y) (sym c.requires.span)
                  ∙ second_so (is_some (line m name)) _ (c.requires.nodes (node.Line name y) (refl, h.1.1)) in
                  c.in_ok-put_each-2.ensures.found n (
                    y + 1,
                    c.next_years-next.ensures.all y within h.1.1 (omega (arith, in_years.1, next.1)),
                    (t.0, t.2 ∙ ap (λ z. node.Line t.0 z) next.1, next.0),
                  )
            ]
            | inr e ↦ c.in_ok-put_each-2.ensures.added.kept n (c.in_ok-put_each.ensures.added.kept n (subst (IsIn c.put_if.new.self) (sym e)
                (c.in_ok-put_if.ensures.found (node.Equiv name y) (
                  c.is_some-emits.ensures ∙ ap is_some c.line_gas.ensures
                      ∙ first_so (emits m name) _ (subst (λ k. is_node m k ≡ true) e i.node),
                  (refl, h.1.1),
                ))))
          ];
    }
