use Rattle.std.proofs.Common.{◌∙◌, ap, is_some, refl, subst, sym}
use Rattle.ghg_units.specs.declared.node.Node.TheVariants as node
use Rattle.ghg_affected.proofs.Bools.{true_not_false}
use Rattle.ghg_definitions.specs.Listed.{IsListed}
use Rattle.ghg_definitions.specs.Nodes.{year_in}
use Rattle.ghg_definitions.specs.Data.{line_names}
use Rattle.ghg_definitions.proofs.Grounded.{line_listed}
use Rattle.ghg_definitions.proofs.Listed.{contained}
use Rattle.ghg_definitions.proofs.NodeLists.{lines_are}
use Rattle.ghg_search.specs.Search.{IsNodeIn, IsTotalOf}
use Rattle.ghg_search.specs.Series.{Within}
use Rattle.ghg_search.proofs.Adding.{added_more, added_none, added_weaker}
use Rattle.ghg_search.proofs.Fresh.{AreLineNodes, all_nodes, equivalent_nodes, gross_nodes, line_nodes, line_nodes_kept, total_nodes}
use Rattle.ghg_search.proofs.Sources.{each_all, each_next}
use Rattle.ghg_graph.proofs.EquationParameters.{at_place}
use Rattle.ghg_units.specs.declared.node.Node.{Node}
use Rattle.ghg_search.specs.Found.{IsIn}
use Rattle.ghg_search.proofs.found.Found.put_years.Goals as goal

pub returns-then-is_empty : goal.returns-then-is_empty
returns-then-is_empty g c = record {
  added = added_none (IsNodeIn (g.R.Records.content c.args.records.now) c.args.years.now) c.args.self.now;
  found = λ n is. absurd (true_not_false (sym is.1 ∙ c.is_empty.ensures.0 c.if-is_empty.true (year_in n)));
}

pub loop-name-init : goal.loop-name-init
loop-name-init g c = record {
  added = added_none (IsNodeIn (g.R.Records.content c.args.records.now) c.args.years.now) c.args.self.now;
  found = λ name i. absurd i;
}

pub loop-name-preserved : goal.loop-name-preserved
loop-name-preserved g c =
    let m = g.R.Records.content c.args.records.now in
    let years = c.args.years.now in
    let P = IsNodeIn m years in
    let name = c.name-item.result in
    let names = c.deref-name-items.result.now in
    let i = c.loop-name.name-index in
    let here = subst (λ n. IsListed n names) (sym c.name-item.is) (at_place names i name c.loop-name-test.true) in
    let present = (lines_are m c.in_ok-lines.ensures.workbook.records name).1
    (contained (line_names m) name (subst (IsListed name) (c.deref-name-items.ensures.value ∙ c.in_ok-lines.ensures.names) here)) in
    let emits = c.is_some-emits.ensures ∙ ap is_some c.line_gas.ensures in
    let line = c.in_ok-put.ensures in
    let equivalent = c.in_ok-put_if.ensures in
    let kept = λ (n : Node) (is : IsIn c.loop-name.self n). equivalent.added.kept n (line.added.kept n is) in
    record {
      added = added_more P _ _ _ c.loop-name.invariant.added (added_more P _ _ _
          (added_weaker _ P _ _ (line_nodes m years c.requires name present) line.added)
          (added_weaker _ P _ _ (equivalent_nodes m years c.requires name c.is_some-emits.result emits) equivalent.added));
      found = each_next (λ n. AreLineNodes m c.put_if.new.self n years) names i name c.loop-name-test.true c.name-item.is
          (λ n j. line_nodes_kept m years c.loop-name.self c.put_if.new.self n kept (c.loop-name.invariant.found n j))
          (λ y h. (
            equivalent.added.kept (node.Line name y) (line.found (node.Line name y) (refl, h)),
            λ e. equivalent.found (node.Equiv name y) (emits ∙ e, (refl, h)),
          ));
    }

pub returns : goal.returns
returns g c =
    let m = g.R.Records.content c.args.records.now in
    let years = c.args.years.now in
    let P = IsNodeIn m years in
    record {
      added = added_more P _ _ _ (added_more P _ _ _ c.loop-name.invariant.added
          (added_weaker _ P _ _ (λ n h. total_nodes m years c.requires n (subst (λ tops. Within years (IsTotalOf tops) n) c.all.ensures h)) c.in_ok-put_totals.ensures.added))
          (added_weaker _ P _ _ (gross_nodes m years c.requires) c.in_ok-put-2.ensures.added);
      found = all_nodes m years c.put-2.new.self
          (λ name is. line_nodes_kept m years c.loop-name.self c.put-2.new.self name
          (λ n in_it. c.in_ok-put-2.ensures.added.kept n (c.in_ok-put_totals.ensures.added.kept n in_it))
          (each_all (λ n. AreLineNodes m c.loop-name.self n years) _ c.loop-name.name-index c.loop-name-test.false c.loop-name.invariant.found name
          (subst (IsListed name) (sym (c.deref-name-items.ensures.value ∙ c.in_ok-lines.ensures.names)) (line_listed m name is))))
          (λ top i y h. c.in_ok-put-2.ensures.added.kept (node.Total top y) (c.in_ok-put_totals.ensures.found (node.Total top y) (y, h, (top, subst (IsListed top) (sym c.all.ensures) i, refl))))
          c.in_ok-put-2.ensures.found;
    }
