use Rattle.std.proofs.Common.{arith}
use Rattle.ghg_roots.proofs.Ends.{down_at_zero, down_at_unit}
use Rattle.ghg_roots.proofs.first_reaching.Goals as goal

pub loop-low-init : goal.loop-low-init
loop-low-init c =
    let below = down_at_zero c.args.parts c.args.exponent c.requires.positive in
    (below, down_at_unit c.args.parts c.args.exponent c.requires.some_parts.0, omega arith, omega arith)
