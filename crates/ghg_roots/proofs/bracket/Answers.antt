use Rattle.std.proofs.Common.{arith}
use Rattle.std.proofs.lemmas.Int.{ints}
use Rattle.ghg_roots.proofs.Ends.{bracket_ordered, bracket_holds, bracket_width, one_bracket}
use Rattle.ghg_roots.proofs.Found.{bracket_is}
use Rattle.ghg_roots.proofs.bracket.Goals as goal

pub interval_between-requires-clause-ordered : goal.interval_between-requires-clause-ordered
interval_between-requires-clause-ordered c =
    let is = c.bracket_ends-low.ensures.bracket in
    omega (arith, ints, bracket_ordered c.args.parts c.args.exponent c.requires.positive _ is)

pub returns-clause-value : goal.returns-clause-value
returns-clause-value c =
    rw c.interval_between.ensures
    (bracket_is c.args.parts c.args.exponent c.requires.some_parts.0 c.requires.positive _ c.bracket_ends-low.ensures.bracket)

pub returns-clause-only : goal.returns-clause-only
returns-clause-only c b is =
    rw c.interval_between.ensures
    (one_bracket c.args.parts c.args.exponent _ b c.requires.positive c.bracket_ends-low.ensures.bracket is)

pub returns-clause-holds : goal.returns-clause-holds
returns-clause-holds c =
    let is = c.bracket_ends-low.ensures.bracket in
    rw c.interval_between.ensures (bracket_holds c.args.parts c.args.exponent c.requires.positive _ is)

pub returns-clause-width : goal.returns-clause-width
returns-clause-width c =
    let is = c.bracket_ends-low.ensures.bracket in
    rw c.interval_between.ensures
    (bracket_width c.args.parts c.args.exponent c.requires.positive _ is (omega (arith, ints, c.bracket_ends-low.ensures.in_unit)))
