use Rattle.ghg_review.specs.Replies.{review_step}
use Rattle.ghg_review.proofs.Undone.{after_is, cause_is, lines_are, undone_is}
use Rattle.ghg_review.proofs.answering.answer.Goals as goal

pub returns-clause-lines : goal.returns-clause-lines
returns-clause-lines g c =
    let answer = rw c.in_ok-command.ensures at c.step.ensures.answer in
    let lines = rw c.in_ok-command.ensures at c.lines.ensures.lines in
    lines_are _ _ _ _ c.in_default.not-Memory answer c.step.ensures.office c.lines.result lines

pub returns-clause-after : goal.returns-clause-after
returns-clause-after g c =
    let answer = rw c.in_ok-command.ensures at c.step.ensures.answer in
    after_is _ _ _ _ c.in_default.not-Memory answer c.step.ensures.office c.lines.result

pub returns-clause-undone : goal.returns-clause-undone
returns-clause-undone g c =
    let answer = rw c.in_ok-command.ensures at c.step.ensures.answer in
    undone_is _ _ _ _ c.in_default.not-Memory answer c.step.ensures.office c.lines.result c.lines.ensures.none

pub returns-clause-cause : goal.returns-clause-cause
returns-clause-cause g c =
    let answer = rw c.in_ok-command.ensures at c.step.ensures.answer in
    cause_is _ _ _ _ c.in_default.not-Memory answer c.step.ensures.office c.lines.result c.lines.ensures.none

pub returns-clause-steps : goal.returns-clause-steps
unfolding review_step
returns-clause-steps g c = rw c.in_ok-command.ensures at c.step.ensures.steps
