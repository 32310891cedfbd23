use Rattle.std.proofs.Common.{to_z-of_z, FitsSigned, ◌*ℤ◌}
use Rattle.std.specs.Int.{w128}
use Rattle.ghg_trendunc.proofs.Amounts.{product_fits, product_within}
use Rattle.ghg_trendunc.proofs.lines.times.Goals as goal

pub returns-clause-value : goal.returns-clause-value
returns-clause-value c =
    let fits : FitsSigned w128 (c.args.tonnes *ℤ c.args.sum) = product_fits c.args.tonnes c.args.sum c.requires.tonnes_in c.requires.sum_in in
    let x : FitsSigned w128 c.args.tonnes = c.ranges.tonnes in
    let y : FitsSigned w128 c.args.sum = c.ranges.sum in
    simp to_z-of_z

pub returns-clause-small : goal.returns-clause-small
returns-clause-small c =
    let fits : FitsSigned w128 (c.args.tonnes *ℤ c.args.sum) = product_fits c.args.tonnes c.args.sum c.requires.tonnes_in c.requires.sum_in in
    let x : FitsSigned w128 c.args.tonnes = c.ranges.tonnes in
    let y : FitsSigned w128 c.args.sum = c.ranges.sum in
    simp to_z-of_z (product_within c.args.tonnes c.args.sum c.requires.tonnes_in c.requires.sum_in)
