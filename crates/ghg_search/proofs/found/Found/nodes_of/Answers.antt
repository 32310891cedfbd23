use Rattle.std.proofs.Common.{subst, sym, take}
use Rattle.std.proofs.lemmas.List.{take_all}
use Rattle.ghg_search.specs.Listing.{AreOfSeries}
use Rattle.ghg_search.proofs.Ordered.{series_more, series_none}
use Rattle.ghg_search.proofs.found.Found.nodes_of.Goals as goal

pub loop-series-init : goal.loop-series-init
loop-series-init c = subst (AreOfSeries c.args.self.now (take 0 c.args.all.now)) (sym c.new-nodes.ensures.items) (series_none c.args.self.now c.args.all.now)

pub loop-series-preserved : goal.loop-series-preserved
loop-series-preserved c =
    series_more c.args.self.now c.args.all.now c.loop-series.series-index c.series-item.result c.years_of.result c.loop-series.nodes.items
    c.put_nodes.new.nodes.items c.requires c.loop-series-test.true c.series-item.is c.years_of.ensures c.in_ok-put_nodes.ensures c.loop-series.invariant

pub returns : goal.returns
returns c = subst (λ ss. AreOfSeries c.args.self.now ss c.loop-series.nodes.items)
    (take_all c.loop-series.series-index c.args.all.now c.loop-series-test.false) c.loop-series.invariant
