use Rattle.std.proofs.Common.{sym}
use Rattle.ghg_search.proofs.Spreads.{next_queued, spread_all, spread_more}
use Rattle.ghg_search.proofs.found.Found.spread.Goals as goal

pub put_takers-requires-clause-nodes : goal.put_takers-requires-clause-nodes
put_takers-requires-clause-nodes g c = λ k of.
    c.loop-group.invariant.nodes k (next_queued c.loop-group.self c.loop-group.next c.in-Some.group (sym c.in-Some.ensures) k of)

pub loop-group-preserved : goal.loop-group-preserved
loop-group-preserved g c =
    spread_more (g.R.Records.content c.args.records.now) c.args.self.now c.loop-group.self c.put_takers.new.self c.loop-group.next c.in-Some.group
    c.loop-group.invariant (sym c.in-Some.ensures) c.in_ok-put_takers.ensures.added c.in_ok-put_takers.ensures.found

pub returns-clause-closed : goal.returns-clause-closed
returns-clause-closed g c =
    spread_all (g.R.Records.content c.args.records.now) c.args.self.now c.loop-group.self c.loop-group.next c.loop-group.invariant (sym c.in_default.ensures)
