use Rattle.std.proofs.Common.{◌∙◌, refl, subst, sym}
use Rattle.ghg_units.specs.declared.node.Node.TheVariants as node
use Rattle.ghg_definitions.specs.Listed.{IsListed}
use Rattle.ghg_definitions.specs.Nodes.{year_in}
use Rattle.ghg_search.specs.Search.{IsChange}
use Rattle.ghg_columns.specs.declared.series.Series.TheVariants as series
use Rattle.ghg_search.proofs.Adding.{added_more, added_weaker}
use Rattle.ghg_search.proofs.Groups.{of_node}
use Rattle.ghg_search.proofs.Tops.{changed_tops, gross_is, tops_changed}
use Rattle.ghg_search.proofs.found.Found.put_moved.Goals as goal

pub returns : goal.returns
returns g c =
    let old = g.R.Records.content c.args.old.now in
    let new = g.S.Records.content c.args.new.now in
    let moved = c.args.moved.now in
    let P = IsChange old new in
    let totals = c.in_ok-put_totals.ensures in
    let gross = c.in_ok-put_if.ensures in
    let kept = c.requires.years in
    record {
      added = added_more P _ _ _
          (added_weaker _ P _ _ (λ n h. let t = h.2 in subst P (sym t.2)
          (tops_changed old new moved c.requires.moved h.0 (kept h.0 h.1).1 (kept h.0 h.1).2 t.0 (subst (IsListed t.0) c.as_slice.ensures.value t.1))) totals.added)
          (added_weaker _ P _ _ (λ n h. let y = year_in n in let of = h.1 in subst P (sym (of_node series.Gross c.args.years.now n of))
          (gross_is old new moved c.requires.moved y (kept y of.1).1 (kept y of.1).2 ∙ h.0)) gross.added);
      totals = λ top y h e.
          let i = changed_tops old new moved c.requires.moved y (kept y h).1 (kept y h).2 top e in
          gross.added.kept (node.Total top y) (totals.found (node.Total top y) (y, h, (top, subst (IsListed top) (sym c.as_slice.ensures.value) i, refl)));
      gross = λ y h e. gross.found (node.Gross y) (sym (gross_is old new moved c.requires.moved y (kept y h).1 (kept y h).2) ∙ e, (refl, h));
    }
