use Rattle.std.proofs.Common.{arith}
use Rattle.ghg_data.proofs.YearBits.{last_below}
use Rattle.ghg_data.proofs.year_set.last_bit.Goals as goal

pub returns : goal.returns
returns c = last_below c.args.word c.bits_below-rest.result c.args.below (omega arith) c.bits_below-rest.ensures c.if-rest-eq0.false
