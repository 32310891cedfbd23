use Rattle.std.proofs.Common.{◌<◌, ◌≤◌, arith, length}
use Rattle.ghg_graph.proofs.Depending.{few_queued, spread_all, spread_more, spread_none}
use Rattle.ghg_graph.proofs.dependencies.Gathered.spread.Goals as goal

pub loop-next-init : goal.loop-next-init
loop-next-init g c = spread_none (g.R.Records.content c.args.records.now) c.args.self.now c.requires.queued

pub loop-next-smaller : goal.loop-next-smaller
loop-next-smaller g c =
    let more : c.loop-next.next < length c.loop-next.self.queue.items = grind (arith, c.loop-next-test.true, c.len.ensures, c.loop-next.self.queue.ok) in
    let few = few_queued (g.R.Records.content c.args.records.now) c.args.self.now c.requires.workbook c.requires.present c.loop-next.next c.loop-next.self c.loop-next.invariant in
    omega (arith, more, few)

pub loop-next-preserved : goal.loop-next-preserved
loop-next-preserved g c =
    let more : c.loop-next.next < length c.loop-next.self.queue.items = grind (arith, c.loop-next-test.true, c.len.ensures, c.loop-next.self.queue.ok) in
    spread_more (g.R.Records.content c.args.records.now) c.args.self.now c.loop-next.next c.index.result.now c.loop-next.self c.add_taken.new.self
    c.loop-next.invariant more c.index.ensures c.in_ok-add_taken.ensures

pub returns : goal.returns
returns g c =
    let all : length c.loop-next.self.queue.items ≤ c.loop-next.next = grind (arith, c.loop-next-test.false, c.len.ensures, c.loop-next.self.queue.ok) in
    spread_all (g.R.Records.content c.args.records.now) c.args.self.now c.requires.workbook c.requires.present c.requires.queued c.loop-next.next c.loop-next.self c.loop-next.invariant all
