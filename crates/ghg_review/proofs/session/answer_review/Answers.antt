use Rattle.std.proofs.Common.{◌≡◌, ◌≤◌, ◌+◌, [], arith, refl}
use Rattle.ghg_script.specs.Reading.{most_commands}
use Rattle.ghg_outer.proofs.Tapes.{consumes_nothing}
use Rattle.ghg_session.proofs.Answered.{answers_one, begins, ends_at_end, malformed, refused, spent_all, stops_in_reply, stops_reading, stops_undone}
use Rattle.ghg_script.proofs.Commands.{no_text}
use Rattle.ghg_review.proofs.session.answer_review.Goals as goal

pub commands-init : goal.commands-init
commands-init g c = record { session = begins _ _ _ _ _ _ _ tt; input_stays = refl; output_stays = refl }

pub returns-in-Err-clause-session : goal.returns-in-Err-clause-session
returns-in-Err-clause-session g c =
    (stops_reading _ _ _ _ _ _ _ _ _ _ _ _ c.commands.invariant.session _ _ c.commands-test.true c.in-Err.ensures.parsed).0

pub returns-in-Ok-None-clause-session : goal.returns-in-Ok-None-clause-session
returns-in-Ok-None-clause-session g c =
    let missing = rw c.in-Ok-None.field-0-is at c.in-Ok-None.ensures.parsed in
    (refused _ _ _ _ _ _ _ _ _ _ _ _ c.commands.invariant.session missing.text _ _ _ missing.read
    (malformed _ _ _ _ _ _ _ _ _ _ _ _ c.commands.invariant.session _ c.commands-test.true missing) c.refuse.ensures.reported).0

pub returns-in-Ok-Some-End-clause-session : goal.returns-in-Ok-Some-End-clause-session
returns-in-Ok-Some-End-clause-session g c =
    let found = rw (c.in-Ok-Some-End.field-0-is, c.in-Ok-Some-End.field-0-0-is) at c.in-Ok-Some-End.ensures.parsed in
    (ends_at_end _ _ _ _ _ _ _ _ _ _ _ _ c.commands.invariant.session _ c.commands-test.true found).0

pub returns-in-Err-answer-clause-session : goal.returns-in-Err-answer-clause-session
returns-in-Err-answer-clause-session g c =
    let found = rw (c.in-Ok-Some-Request.field-0-is, c.in-Ok-Some-Request.field-0-0-is) at c.in-Ok-Some-Request.ensures.parsed in
    let left = c.in-Err-answer.ensures in
    rw left.undone ((stops_undone _ _ _ _ _ _ _ _ _ _ _ _ c.commands.invariant.session (Unit {0}) _ _ _ _ c.commands-test.true (no_text _) found left.cause
    c.answer.ensures.steps (λ same quiet. same)).0)

pub returns-in-Err-write_lines-clause-session : goal.returns-in-Err-write_lines-clause-session
returns-in-Err-write_lines-clause-session g c =
    let found = rw (c.in-Ok-Some-Request.field-0-is, c.in-Ok-Some-Request.field-0-0-is) at c.in-Ok-Some-Request.ensures.parsed in
    let answer = c.in-Ok.ensures in
    (stops_in_reply _ _ _ _ _ _ _ _ _ _ _ _ c.commands.invariant.session (Unit {0}) _ _ _ _ _ _ c.commands-test.true (no_text _) found
    (rw answer.lines at c.in-Err-write_lines.ensures.written) answer.after c.answer.ensures.steps (λ same quiet. same)).0

pub commands-preserved : goal.commands-preserved
commands-preserved g c =
    let found = rw (c.in-Ok-Some-Request.field-0-is, c.in-Ok-Some-Request.field-0-0-is) at c.in-Ok-Some-Request.ensures.parsed in
    let answer = c.in-Ok.ensures in
    record {
      session = answers_one _ _ _ _ _ _ _ _ _ _ _ _ c.commands.invariant.session (Unit {0}) _ _ _ _ _ c.commands-test.true found
          (rw answer.lines at c.in_default.ensures.written) answer.after c.answer.ensures.steps (λ same quiet. same);
      input_stays = grind (arith, c.commands.invariant.input_stays, c.in-Ok-Some-Request.ensures.counted.stays);
      output_stays = grind (arith, c.commands.invariant.output_stays, c.in_default.ensures.counted.stays);
    }

pub returns-clause-session : goal.returns-clause-session
returns-clause-session g c =
    let spent : most_commands ≤ c.commands.done = omega arith in
    let all : c.commands.done + 1 ≡ most_commands + 1 = omega arith in
    (refused _ _ _ _ _ _ _ _ _ _ _ _ c.commands.invariant.session [] _ _ _ (consumes_nothing _)
    (spent_all _ _ _ _ _ _ _ _ _ _ _ _ c.commands.invariant.session spent) (rw all c.refuse-2.ensures.reported)).0
