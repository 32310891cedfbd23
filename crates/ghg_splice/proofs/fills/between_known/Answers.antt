use Rattle.std.proofs.lemmas.List.{append-nil}
use Rattle.ghg_splice.proofs.Lists.{gaps_more, no_gaps}
use Rattle.ghg_splice.proofs.fills.between_known.Goals as goal

pub loop-at-preserved : goal.loop-at-preserved
loop-at-preserved c =
    gaps_more c.args.known.now c.loop-at.at c.index-known-at.result c.index-known-at-in-loop-at.result c.loop-at.fills.items c.append_gap.new.fills.items _ c.loop-at.auto.at c.loop-at-test.true c.index-known-at.is c.index-known-at-in-loop-at.is c.loop-at.invariant c.in_ok-append_gap.ensures

pub returns : goal.returns
returns c =
    let so_far = rw (no_gaps c.args.known.now c.loop-at.at c.loop-at-test.false, append-nil) at c.loop-at.invariant in so_far
