use Rattle.std.proofs.Common.{rules, ◌≢◌, pos, refl, to_z-of_z, FitsSigned}
use Rattle.std.specs.Int.{w128}
use Rattle.ghg_keycat.specs.Entries.{IsRanked}
use Rattle.ghg_keycat.specs.Sizes.{trend_size}
use Rattle.ghg_keycat.proofs.Counted.{ranking, total_of}
use Rattle.ghg_keycat.proofs.Distances.{sizes_within}
use Rattle.ghg_keycat.proofs.trend.Goals as goal

pub keyed-requires : goal.keyed-requires
keyed-requires c =
    let fb : FitsSigned w128 c.sum_of_base-base.result = search rules in
    let fn : FitsSigned w128 c.sum_of_now-current.result = search rules in
    let ranked : IsRanked (trend_size c.sum_of_base-base.result c.sum_of_now-current.result) c.args.rows.now c.in_ok-ranked.ranked.items = simp to_z-of_z at c.in_ok-ranked.ensures in
    rw (total_of (trend_size c.sum_of_base-base.result c.sum_of_now-current.result) c.args.rows.now c.in_ok-ranked.ranked.items ranked)
    (sizes_within c.sum_of_base-base.result c.sum_of_now-current.result c.args.rows.now c.sum_of_base-base.ensures.small c.sum_of_now-current.ensures.small c.requires.small)

pub returns : goal.returns
returns c =
    let fb : FitsSigned w128 c.sum_of_base-base.result = search rules in
    let fn : FitsSigned w128 c.sum_of_now-current.result = search rules in
    let ranked : IsRanked (trend_size c.sum_of_base-base.result c.sum_of_now-current.result) c.args.rows.now c.in_ok-ranked.ranked.items = simp to_z-of_z at c.in_ok-ranked.ensures in
    let keys = ranking (trend_size c.sum_of_base-base.result c.sum_of_now-current.result) c.args.rows.now c.in_ok-ranked.ranked.items c.in_ok-keys.keys.items c.requires.distinct ranked c.in_ok-keys.ensures in
    let size = simp to_z-of_z at c.unsigned_abs.ensures.value in
    let some : c.sum_of_base-base.result ≢ pos 0 = λ e. c.if-base-eq0.false (rw e refl) in
    rw (← c.sum_of_base-base.ensures.value, ← c.sum_of_now-current.ensures.value) (some, keys, rw (c.size_of_base.ensures.value, size) refl)
