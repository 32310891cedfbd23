use Rattle.std.proofs.Common.{arith}
use Rattle.ghg_data.proofs.YearBits.{masked_below, whole_below}
use Rattle.ghg_data.proofs.year_set.bits_below.Goals as goal

pub returns-then-below-ge-WORD : goal.returns-then-below-ge-WORD
returns-then-below-ge-WORD c = λ i. whole_below c.args.word c.args.below i c.ranges.word.fits c.if-below-ge-WORD.true

pub returns-else-below-ge-WORD : goal.returns-else-below-ge-WORD
returns-else-below-ge-WORD c = λ i. masked_below c.args.word c.args.below i (omega (arith, c.if-below-ge-WORD.false))
