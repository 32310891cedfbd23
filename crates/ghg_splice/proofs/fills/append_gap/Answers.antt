use Rattle.std.proofs.Common.{arith, refl, ◌+◌}
use Rattle.ghg_splice.proofs.Lists.{gap_more, gap_whole}
use Rattle.ghg_splice.proofs.fills.append_gap.Goals as goal

pub loop-step-preserved : goal.loop-step-preserved
loop-step-preserved c = record {
  filled = gap_more c.args.before.now c.args.after.now c.args.fills.now.items c.loop-step.fills.items c.push.new.self.items c.loop-step.step (c.args.before.now.year + c.loop-step.step) c.linear-value.result c.loop-step.auto.step refl c.linear-value.ensures c.loop-step.invariant.filled c.in_ok-push.ensures.items;
  within = omega (arith, c.loop-step-test.true, c.saturating_sub-step-end.ensures, c.loop-step.auto.step);
}

pub returns : goal.returns
returns c =
    gap_whole c.args.before.now c.args.after.now c.args.fills.now.items c.loop-step.fills.items c.loop-step.step (omega (arith, c.loop-step.invariant.within, c.loop-step-test.false, c.saturating_sub-step-end.ensures, c.loop-step.auto.step)) c.loop-step.invariant.filled
