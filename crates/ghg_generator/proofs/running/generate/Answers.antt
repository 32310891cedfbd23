use Rattle.std.proofs.Common.{◌≡◌, ◌+◌, ◌∙◌, ap, sym, arith, refl}
use Rattle.ghg_generator.proofs.Left.{none_left, run_left, spent_left}
use Rattle.ghg_generator.specs.Summary.{after_all, one_more, submission}
use Rattle.ghg_generator.proofs.running.generate.Goals as goal

pub returns-in_err-submit-2-clause-steps : goal.returns-in_err-submit-2-clause-steps
returns-in_err-submit-2-clause-steps g c =
    let body = c.deref-in-loop-done.ensures.value ∙ c.in_ok-body.ensures.body in
    let left = spent_left _ c.args.lines c.loop-done.done c.loop-done.number c.loop-done.steps _ _ _ c.loop-done-test.true
    c.loop-done.invariant.spent body c.submit-in-loop-done.ensures.steps in
    omega (arith, left)

pub loop-done-preserved : goal.loop-done-preserved
loop-done-preserved g c =
    let body = c.deref-in-loop-done.ensures.value ∙ c.in_ok-body.ensures.body in
    let left = spent_left _ c.args.lines c.loop-done.done c.loop-done.number c.loop-done.steps _ _ _ c.loop-done-test.true
    c.loop-done.invariant.spent body c.submit-in-loop-done.ensures.steps in
    let due = rw (run_left c.args.lines c.loop-done.done c.loop-done.number c.loop-done-test.true, sym body)
    at c.loop-done.invariant.ran in
    record {
      ran = rw (c.in_ok-submit-2.ensures.after, c.in_ok-body.ensures.number) due;
      spent = rw (c.in_ok-submit-2.ensures.after, c.in_ok-body.ensures.number) left;
      accepted = c.in_ok-submit-2.ensures.few;
      cells = c.in_ok-submit-2.ensures.cells;
    }

pub returns-clause-text : goal.returns-clause-text
returns-clause-text g c =
    let none = none_left c.args.lines c.loop-done.done (c.loop-done.done + 1) c.loop-done.number c.loop-done-test.false in
    let ran = rw none at c.loop-done.invariant.ran in
    rw ran at c.summary.ensures
