use Rattle.std.proofs.Common.{◌≡◌, ◌∙◌, sym, arith}
use Rattle.std.proofs.lemmas.Grind.{common_steps}
use Rattle.std.proofs.lemmas.List.{append-nil}
use Rattle.ghg_generator.specs.Bodies.{activity_rows}
use Rattle.ghg_generator.specs.Draws.{after_draws}
use Rattle.ghg_generator.proofs.Left.{draws_left, rows_left}
use Rattle.ghg_generator.proofs.bodies.append_activities.Goals as goal

pub loop-left-preserved : goal.loop-left-preserved
loop-left-preserved c =
    let rows = rows_left c.loop-left.left c.args.digits.now c.loop-left.number c.loop-left-test.true in
    let draws = draws_left c.loop-left.left c.loop-left.number c.loop-left-test.true in
    let due = rw rows at c.loop-left.invariant.written in
    record {
      written = grind (arith, common_steps, due);
      drawn = rw c.draw.ensures.number (sym draws ∙ c.loop-left.invariant.drawn);
      few = omega arith;
    }

pub returns-clause-body : goal.returns-clause-body
unfolding activity_rows
returns-clause-body c =
    let none : c.loop-left.left ≡ 0 = omega arith in
    sym (append-nil c.loop-left.body.items) ∙ rw none at c.loop-left.invariant.written

pub returns-clause-number : goal.returns-clause-number
unfolding after_draws
returns-clause-number c =
    let none : c.loop-left.left ≡ 0 = omega arith in
    rw none at c.loop-left.invariant.drawn
