use Rattle.std.proofs.Common.{◌≡◌, ◌∙◌, ℕ, refl, subst, sym, true}
use Rattle.ghg_units.specs.declared.node.Node.TheVariants as node
use Rattle.ghg_definitions.specs.Listed.{IsListed}
use Rattle.ghg_search.specs.Found.{IsIn}
use Rattle.ghg_search.specs.Index.{names_bound}
use Rattle.ghg_search.specs.Search.{IsLineNaming}
use Rattle.ghg_search.specs.Series.{Within}
use Rattle.ghg_data.specs.YearSet.{has_year}
use Rattle.ghg_definitions.specs.Nodes.{year_in}
use Rattle.ghg_columns.specs.declared.series.Series.TheVariants as series
use Rattle.ghg_search.proofs.Adding.{added_more, added_none, added_weaker, none_missing}
use Rattle.ghg_search.proofs.Groups.{of_node}
use Rattle.ghg_search.proofs.Sources.{each_all, each_next}
use Rattle.ghg_search.proofs.Takers.{namer_is_user}
use Rattle.ghg_search.proofs.found.Found.put_each.Goals as goal

pub loop-taker-init : goal.loop-taker-init
loop-taker-init g c = record {
  added = added_none (Within c.args.years.now (IsLineNaming (g.R.Records.content c.args.records.now) c.args.source.now)) c.args.self.now;
  found = λ taker i. absurd i;
}

pub loop-taker-preserved-then-is_empty : goal.loop-taker-preserved-then-is_empty
loop-taker-preserved-then-is_empty g c = record {
  added = c.loop-taker.invariant.added;
  found = each_next (λ t. names_bound (g.R.Records.content c.args.records.now) c.args.source.now t ≡ true → (y : ℕ) → has_year c.args.years.now y ≡ true
      → IsIn c.loop-taker.self (node.Line t y)) c.users-taker-items.result.now c.loop-taker.taker-index c.taker-item.result
      c.loop-taker-test.true c.taker-item.is c.loop-taker.invariant.found
      (λ on y h. none_missing c.loop-taker.self (series.Line c.taker-item.result) c.args.years.now c.missing.result c.missing.ensures
      (c.is_empty.ensures.0 c.if-is_empty.true) (node.Line c.taker-item.result y) (refl, h));
}

pub loop-taker-preserved : goal.loop-taker-preserved
loop-taker-preserved g c =
    let m = g.R.Records.content c.args.records.now in
    let s = c.args.source.now in
    let years = c.args.years.now in
    let taker = c.taker-item.result in
    let P = Within years (IsLineNaming m s) in
    let put = c.in_ok-put_if.ensures in
    record {
      added = added_more P _ _ _ c.loop-taker.invariant.added (added_weaker _ P _ _
          (λ n h. (year_in n, h.1.1, (taker, of_node (series.Line taker) years n h.1, sym c.names_bound.ensures ∙ h.0))) put.added);
      found = each_next (λ t. names_bound m s t ≡ true → (y : ℕ) → has_year years y ≡ true → IsIn c.put_if.new.self (node.Line t y))
          c.users-taker-items.result.now c.loop-taker.taker-index taker c.loop-taker-test.true c.taker-item.is
          (λ t j on y h. put.added.kept (node.Line t y) (c.loop-taker.invariant.found t j on y h))
          (λ on y h. put.found (node.Line taker y) (c.names_bound.ensures ∙ on, (refl, h)));
    }

pub returns : goal.returns
returns g c =
    let m = g.R.Records.content c.args.records.now in
    let takers = c.users-taker-items.result.now in
    record {
      added = c.loop-taker.invariant.added;
      found = λ n h.
          let t = h.2 in
          let user = namer_is_user m c.args.index.now c.requires c.args.source.now t.0 t.2 in
          subst (IsIn c.loop-taker.self) (sym t.1) (each_all _ takers c.loop-taker.taker-index c.loop-taker-test.false c.loop-taker.invariant.found t.0
          (subst (IsListed t.0) (sym c.users-taker-items.ensures) user) t.2 h.0 h.1);
    }
