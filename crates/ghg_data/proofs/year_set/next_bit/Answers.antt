use Rattle.ghg_data.proofs.YearBits.{first_from, none_above, none_from}
use Rattle.ghg_data.proofs.year_set.next_bit.Goals as goal

pub returns-then-from-ge-WORD : goal.returns-then-from-ge-WORD
returns-then-from-ge-WORD c = none_above c.args.word c.args.from c.ranges.word.fits c.if-from-ge-WORD.true

pub returns-then-rest-eq0 : goal.returns-then-rest-eq0
returns-then-rest-eq0 c = none_from c.args.word c.args.from c.if-rest-eq0.true

pub returns : goal.returns
returns c = first_from c.args.word c.args.from c.ranges.word.fits c.if-rest-eq0.false
