use Rattle.std.proofs.Common.{arith}
use Rattle.ghg_splice.proofs.Lists.{few_bases}
use Rattle.ghg_splice.proofs.fills.by_bases.Goals as goal

pub fills_from_x-requires : goal.fills_from_x-requires
fills_from_x-requires c = rw (c.deref-2.ensures.value, c.in_ok-bases.ensures) (omega (arith, few_bases c.args.method c.args.rows.now, c.requires))
