use Rattle.std.proofs.Common.{arith, subst}
use Rattle.std.proofs.lemmas.Grind.{common_steps}
use Rattle.ghg_keycat.specs.Sizes.{IsTrend}
use Rattle.ghg_tables.proofs.Assessing.{some_denominator, trends_are, trends_bounded, untrended_are}
use Rattle.ghg_tables.proofs.assessments.append_assessment.Goals as goal

pub append_trends-requires-clause-divisor : goal.append_trends-requires-clause-divisor
append_trends-requires-clause-divisor c =
    let is = subst (IsTrend c.args.rows.now) c.in-Rows.is c.requires.trend in
    rw is.2 (some_denominator c.args.rows.now c.requires.small is.0)

pub append_trends-requires-clause-bounded : goal.append_trends-requires-clause-bounded
append_trends-requires-clause-bounded c =
    let is = subst (IsTrend c.args.rows.now) c.in-Rows.is c.requires.trend in
    rw c.deref.ensures.value (trends_bounded c.args.rows.now c.in-Rows.keys.items c.requires.small is.1)

pub returns-in-Rows : goal.returns-in-Rows
returns-in-Rows c =
    let is = subst (IsTrend c.args.rows.now) c.in-Rows.is c.requires.trend in
    let text = trends_are c.args.rows.now c.in-Rows.keys.items c.in-Rows.denominator c.requires.distinct is.0 is.1 is.2 in
    grind (arith, common_steps, text)

pub returns-in-Undefined : goal.returns-in-Undefined
returns-in-Undefined c =
    let text = untrended_are c.args.rows.now (subst (IsTrend c.args.rows.now) c.in-Undefined.is c.requires.trend) in
    grind (arith, common_steps, text)
