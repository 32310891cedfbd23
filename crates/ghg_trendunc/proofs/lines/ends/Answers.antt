use Rattle.std.proofs.Common.{◌∙◌}
use Rattle.ghg_trendunc.proofs.Millionths.{low_end, high_end}
use Rattle.ghg_trendunc.proofs.lines.ends.Goals as goal

pub returns-clause-low : goal.returns-clause-low
returns-clause-low c = rw c.from.ensures (low_end c.args.n c.args.d c.args.percentage c.requires.positive)

pub returns-clause-high : goal.returns-clause-high
returns-clause-high c = c.div_ceil.ensures ∙ rw c.from.ensures (high_end c.args.n c.args.d c.args.percentage c.requires.positive)
