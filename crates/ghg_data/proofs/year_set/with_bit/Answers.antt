use Rattle.std.proofs.Common.{cond, ◌==◌, ◌∙◌, sym, ap}
use Rattle.ghg_data.specs.YearSet.{has_bit}
use Rattle.ghg_data.proofs.YearBits.{clear_bit, set_bit}
use Rattle.ghg_data.proofs.year_set.with_bit.Goals as goal

pub returns-then-present : goal.returns-then-present
returns-then-present c = λ i. set_bit c.args.word c.args.place i c.requires ∙ ap (λ b. cond (i == c.args.place) b (has_bit c.args.word i)) (sym c.if-present.true)

pub returns-else-present : goal.returns-else-present
returns-else-present c = λ i. clear_bit c.args.word c.args.place i c.requires c.ranges.word.fits ∙ ap (λ b. cond (i == c.args.place) b (has_bit c.args.word i)) (sym c.if-present.false)
