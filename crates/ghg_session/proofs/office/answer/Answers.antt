use Rattle.ghg_session.proofs.Answering.{left_undone, map_if_err, on_if_err}
use Rattle.ghg_session.proofs.office.answer.Goals as goal

pub returns-in-Submit-clause-undone : goal.returns-in-Submit-clause-undone
returns-in-Submit-clause-undone g c =
    let e = rw c.asked_of.ensures at c.answer-reply.ensures in
    on_if_err c.one_line.result _ _
    (λ stop none. (left_undone _ c.args.request.now _ _ stop _ e.answer e.failure e.store none).0) c.one_line.ensures.none

pub returns-in-Submit-clause-cause : goal.returns-in-Submit-clause-cause
returns-in-Submit-clause-cause g c =
    let e = rw c.asked_of.ensures at c.answer-reply.ensures in
    map_if_err c.one_line.result _ _
    (λ stop none. (left_undone _ c.args.request.now _ _ stop _ e.answer e.failure e.store none).1) c.one_line.ensures.none

pub returns-in-Query-clause-undone : goal.returns-in-Query-clause-undone
returns-in-Query-clause-undone g c =
    let e = rw c.asked_of.ensures at c.answer-reply.ensures in
    on_if_err c.table_lines.result _ _
    (λ stop none. (left_undone _ c.args.request.now _ _ stop _ e.answer e.failure e.store none).0) c.table_lines.ensures.none

pub returns-in-Query-clause-cause : goal.returns-in-Query-clause-cause
returns-in-Query-clause-cause g c =
    let e = rw c.asked_of.ensures at c.answer-reply.ensures in
    map_if_err c.table_lines.result _ _
    (λ stop none. (left_undone _ c.args.request.now _ _ stop _ e.answer e.failure e.store none).1) c.table_lines.ensures.none
