use Rattle.std.proofs.Common.{subst, sym}
use Rattle.ghg_graph.specs.Links.{IsRingFrom}
use Rattle.ghg_graph.proofs.Searching.{earlier_within, step_back, way_ends}
use Rattle.ghg_graph.proofs.search.way.Goals as goal

pub loop-place-preserved : goal.loop-place-preserved
loop-place-preserved c = (
  earlier_within c.args.lines.now c.args.led_by.now c.requires.led c.loop-place.place c.loop-place-test.true c.loop-place.invariant.0,
  step_back c.args.lines.now c.args.led_by.now c.args.end c.loop-place.place c.loop-place-test.true c.loop-place.invariant.0 c.loop-place.way.items c.push.new.self.items c.in_ok-push.ensures.items c.loop-place.invariant.1,
)

pub returns : goal.returns
returns c = λ links start trail link. subst (IsRingFrom links start) (sym c.reverse.ensures.items) (way_ends c.args.lines.now c.args.led_by.now c.args.end c.loop-place.place c.loop-place.way.items c.loop-place-test.false c.loop-place.invariant.1 links start trail link)
