use Rattle.std.proofs.Common.{refl, take, to_z-of_z, FitsSigned}
use Rattle.std.specs.Int.{w128}
use Rattle.ghg_keycat.specs.Entries.{IsRanked}
use Rattle.ghg_keycat.specs.Sizes.{trend_size}
use Rattle.ghg_keycat.proofs.Counted.{all_ranked, one_more}
use Rattle.ghg_keycat.proofs.sizes.ranked_by_trend.Goals as goal

pub loop-pair-preserved : goal.loop-pair-preserved
loop-pair-preserved c =
    let fb : FitsSigned w128 c.args.base = c.ranges.base in
    let fc : FitsSigned w128 c.args.current = c.ranges.current in
    let size = simp to_z-of_z at c.distance.ensures in
    let before : IsRanked (trend_size c.args.base c.args.current) (take c.loop-pair.pair-index c.args.rows.now) c.loop-pair.ranked.items = simp to_z-of_z at c.loop-pair.invariant in
    simp to_z-of_z (rw c.in_ok-push.ensures.items (one_more (trend_size c.args.base c.args.current) c.args.rows.now c.loop-pair.pair-index _ c.loop-pair.ranked.items _ c.loop-pair-test.true refl size before))

pub returns : goal.returns
returns c =
    let fb : FitsSigned w128 c.args.base = c.ranges.base in
    let fc : FitsSigned w128 c.args.current = c.ranges.current in
    let ranked : IsRanked (trend_size c.args.base c.args.current) (take c.loop-pair.pair-index c.args.rows.now) c.loop-pair.ranked.items = simp to_z-of_z at c.loop-pair.invariant in
    all_ranked (trend_size c.args.base c.args.current) c.args.rows.now c.loop-pair.pair-index c.loop-pair.ranked.items c.loop-pair-test.false ranked
