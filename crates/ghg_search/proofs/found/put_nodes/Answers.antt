use Rattle.ghg_search.proofs.Ordered.{put_all, put_more, put_none}
use Rattle.ghg_search.proofs.found.put_nodes.Goals as goal

pub loop-year-init : goal.loop-year-init
loop-year-init c = put_none c.args.series.now c.args.years.now c.args.nodes.now.items

pub loop-year-preserved : goal.loop-year-preserved
loop-year-preserved c =
    put_more c.args.series.now c.args.years.now c.args.nodes.now.items c.loop-year.nodes.items c.push.new.self.items c.loop-year.last c.in-Some.year
    c.loop-year.invariant c.in-Some.ensures.0 c.in-Some.ensures.1 c.in-Some.ensures.2 c.node.result c.node.ensures c.in_ok-push.ensures.items

pub returns : goal.returns
returns c =
    put_all c.args.series.now c.args.years.now c.args.nodes.now.items c.loop-year.nodes.items c.loop-year.last c.loop-year.invariant
    c.in_default.ensures
