use Rattle.std.proofs.Common.{arith}
use Rattle.ghg_roots.proofs.Ends.{up_at_zero, up_at_unit}
use Rattle.ghg_roots.proofs.last_within.Goals as goal

pub loop-low-init : goal.loop-low-init
loop-low-init c =
    let within = up_at_zero c.args.parts c.args.exponent c.requires.positive in
    (within, up_at_unit c.args.parts c.args.exponent c.requires.some_parts.0, omega arith, omega arith)
