use Rattle.ghg_data.proofs.YearBits.{changed_bit}
use Rattle.ghg_data.proofs.year_set.changed_word.Goals as goal

pub returns : goal.returns
returns c = λ i. changed_bit c.args.word c.args.put c.args.taken i c.ranges.word.fits c.ranges.taken.fits
