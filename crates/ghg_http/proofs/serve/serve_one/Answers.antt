use Rattle.std.proofs.Common.{ap, refl, Err}
use Rattle.ghg_outer.proofs.Counts.{count_stays, counted_as}
use Rattle.ghg_http.proofs.Serving.{cut_off, link_failed, ran_out, sent, unstored, unwritten}
use Rattle.ghg_http.proofs.serve.serve_one.Goals as goal

pub returns-in-Ok-None-clause-serves : goal.returns-in-Ok-None-clause-serves
returns-in-Ok-None-clause-serves g c =
    cut_off _ _ _ _ _ _ _ refl (rw c.in-Ok-None.field-0-is at c.in-Ok-None.ensures.request) (counted_as _ _ _ _ (λ e. cc) (λ e. cc) c.in-Ok-None.ensures.counted)

pub returns-in-Err-Failed-clause-serves : goal.returns-in-Err-Failed-clause-serves
returns-in-Err-Failed-clause-serves g c =
    link_failed _ _ _ _ _ _ _ refl (rw c.in-Err-Failed.field-0-is at c.in-Err-Failed.ensures.stopped) (counted_as _ _ _ _ (λ _. ap Err c.in-Err-Failed.field-0-is) (λ _. refl) c.in-Err-Failed.ensures.counted)

pub returns-in-Err-Memory-clause-serves : goal.returns-in-Err-Memory-clause-serves
returns-in-Err-Memory-clause-serves g c =
    ran_out _ _ _ _ _ _ _ refl (rw c.in-Err-Memory.field-0-is at c.in-Err-Memory.ensures.stopped) (counted_as _ _ _ _ (λ e. cc) (λ e. cc) (rw c.in-Err-Memory.field-0-is at c.in-Err-Memory.ensures.counted))

pub returns-in-Ok-clause-serves : goal.returns-in-Ok-clause-serves
returns-in-Ok-clause-serves g c =
    let answers = c.answer.ensures.answers in
    sent _ _ _ _ _ _ _ _ _ _ _ answers.0 (rw c.in-Ok-Some.field-0-is at c.in-Ok-Some.ensures.request)
    (count_stays _ _ _ (λ e. cc) c.in-Ok-Some.ensures.counted) c.answer.ensures.steps answers.2 c.answer.ensures.untouched _ (rw c.in-Ok.is at answers.1) _ _ c.send.ensures.sent c.send.ensures.counted

pub returns-clause-serves : goal.returns-clause-serves
returns-clause-serves g c =
    let answers = c.answer.ensures.answers in
    unwritten _ _ _ _ _ _ _ _ _ _ _ answers.0 (rw c.in-Ok-Some.field-0-is at c.in-Ok-Some.ensures.request)
    (count_stays _ _ _ (λ e. cc) c.in-Ok-Some.ensures.counted) c.answer.ensures.steps answers.2 c.answer.ensures.untouched _ answers.1

pub returns-in-Ok-clause-untouched : goal.returns-in-Ok-clause-untouched
returns-in-Ok-clause-untouched g c =
    unstored c.args.stored _ _ _ _ _ _ c.answer.ensures.answers.1 c.answer.ensures.untouched

pub returns-clause-untouched : goal.returns-clause-untouched
returns-clause-untouched g c = unstored c.args.stored _ _ _ _ _ _ c.answer.ensures.answers.1 c.answer.ensures.untouched
