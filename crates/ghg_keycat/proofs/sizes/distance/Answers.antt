use Rattle.std.proofs.Common.{rules, to_z-of_z, FitsSigned, ◌-ℤ◌, refl, ◌∙◌}
use Rattle.std.specs.Int.{w128}
use Rattle.ghg_keycat.proofs.Distances.{difference_fits}
use Rattle.ghg_keycat.proofs.sizes.distance.Goals as goal

pub overflow_sub-own : goal.overflow_sub-own
overflow_sub-own c =
    let fo : FitsSigned w128 c.times-own.result = search rules in
    let fs : FitsSigned w128 c.times-part.result = search rules in
    simp to_z-of_z (difference_fits c.times-own.result c.times-part.result c.times-own.ensures.small c.times-part.ensures.small)

pub returns : goal.returns
returns c =
    let fo : FitsSigned w128 c.times-own.result = search rules in
    let fs : FitsSigned w128 c.times-part.result = search rules in
    let fd : FitsSigned w128 (c.times-own.result -ℤ c.times-part.result) = difference_fits c.times-own.result c.times-part.result c.times-own.ensures.small c.times-part.ensures.small in
    let last = simp to_z-of_z at c.unsigned_abs-3.ensures.value in
    let fb : FitsSigned w128 c.args.base = c.ranges.base in
    let fc : FitsSigned w128 c.args.current = c.ranges.current in
    let fp : FitsSigned w128 c.args.pair.base = search rules in
    let fn : FitsSigned w128 c.args.pair.now = search rules in
    let fx : FitsSigned w128 (c.args.pair.now -ℤ c.args.pair.base) = search rules in
    let fy : FitsSigned w128 (c.args.current -ℤ c.args.base) = search rules in
    let base = simp to_z-of_z at c.unsigned_abs.ensures.value in
    let pair = simp to_z-of_z at c.unsigned_abs-2.ensures.value in
    let own = simp to_z-of_z at c.times-own.ensures.value in
    let part = simp to_z-of_z at c.times-part.ensures.value in
    last ∙ rw (own, part, base, pair) refl
