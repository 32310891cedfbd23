use Rattle.std.proofs.Common.{arith}
use Rattle.ghg_search.proofs.Filtering.{next_all, next_more, next_none}
use Rattle.ghg_search.proofs.years.next_years.Goals as goal

pub loop-year-init : goal.loop-year-init
loop-year-init c = next_none c.args.span c.args.years.now c.empty-next.result c.requires c.empty-next.ensures

pub loop-year-preserved : goal.loop-year-preserved
loop-year-preserved c =
    next_more c.args.span c.args.years.now c.loop-year.next c.with-next.result c.loop-year.last c.in-Some.year c.requires
    c.loop-year.invariant c.in-Some.ensures.0 c.in-Some.ensures.1 c.in-Some.ensures.2 (omega (arith, c.if-year-span.false)) c.with-next.ensures

pub returns-then-year-span-clause-only : goal.returns-then-year-span-clause-only
returns-then-year-span-clause-only c = c.loop-year.invariant.only

pub returns-then-year-span-clause-all : goal.returns-then-year-span-clause-all
returns-then-year-span-clause-all c = next_all c.args.span c.args.years.now c.loop-year.next c.loop-year.last c.loop-year.invariant
    (λ y behind below. c.in-Some.ensures.2 y behind (omega (arith, below, c.if-year-span.true)))

pub returns-clause-only : goal.returns-clause-only
returns-clause-only c = c.loop-year.invariant.only

pub returns-clause-all : goal.returns-clause-all
returns-clause-all c = next_all c.args.span c.args.years.now c.loop-year.next c.loop-year.last c.loop-year.invariant
    (λ y behind below. c.in_default.ensures y behind)
