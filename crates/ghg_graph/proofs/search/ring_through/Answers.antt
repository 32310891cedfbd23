use Rattle.std.proofs.Common.{◌≤◌, length, arith}
use Rattle.ghg_graph.proofs.Searching.{begun, on_no_ring, way_closed}
use Rattle.ghg_graph.proofs.search.ring_through.Goals as goal

pub loop-head-init : goal.loop-head-init
loop-head-init c = begun c.args.links.now c.args.clear.now c.args.start c.in_ok-search.search c.requires.clear c.requires.start c.in_ok-search.ensures

pub returns-then-branch : goal.returns-then-branch
returns-then-branch c = way_closed c.args.links.now c.args.start c.look.new.search c.loop-head.head _ _ c.if-branch.true c.in_ok-look.ensures c.deref.result.now c.deref-then-branch.result.now c.deref.ensures.value c.deref-then-branch.ensures.value _ c.in_ok-way.ensures

pub returns : goal.returns
returns c = on_no_ring _ _ _ _ c.loop-head.invariant (let over : length c.loop-head.search.lines.items ≤ c.loop-head.head = grind (arith, c.loop-head.search.lines.ok, c.len.ensures, c.loop-head-test.false) in over)
