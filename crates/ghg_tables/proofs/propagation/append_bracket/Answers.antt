use Rattle.std.proofs.Common.{arith}
use Rattle.std.proofs.lemmas.Grind.{common_steps}
use Rattle.ghg_uncertainty.proofs.RootBounds.{totals_small}
use Rattle.ghg_uncertainty.specs.declared.TotalUncertainty.TheVariants.{Bracket}
use Rattle.ghg_tables.proofs.Propagated.{bracket_is, no_records, no_total}
use Rattle.ghg_tables.proofs.propagation.append_bracket.Goals as goal

pub append_bounds-requires-clause-low_small : goal.append_bounds-requires-clause-low_small
append_bounds-requires-clause-low_small c = (totals_small c.args.shares.now (Bracket c.in-Bracket.low c.in-Bracket.high) c.requires.count c.requires.each c.in-Bracket.ensures.total).0

pub append_bounds-requires-clause-high_small : goal.append_bounds-requires-clause-high_small
append_bounds-requires-clause-high_small c = (totals_small c.args.shares.now (Bracket c.in-Bracket.low c.in-Bracket.high) c.requires.count c.requires.each c.in-Bracket.ensures.total).1

pub returns-then-lacks : goal.returns-then-lacks
returns-then-lacks c = grind (arith, common_steps, no_records c.args.lacks c.args.shares.now)

pub returns-in-Bracket : goal.returns-in-Bracket
returns-in-Bracket c = grind (arith, common_steps, bracket_is c.args.shares.now c.in-Bracket.low c.in-Bracket.high, c.in-Bracket.ensures.total)

pub returns-in-Undefined : goal.returns-in-Undefined
returns-in-Undefined c = grind (arith, common_steps, no_total c.args.lacks c.args.shares.now, c.in-Undefined.ensures.total)
