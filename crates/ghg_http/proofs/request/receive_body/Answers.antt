use Rattle.std.proofs.Common.{◌∙◌, arith}
use Rattle.std.proofs.lemmas.Result.{err_from_is_err_and}
use Rattle.ghg_http.proofs.Received.{body_cut}
use Rattle.ghg_http.proofs.request.receive_body.Goals as goal

pub returns-in_err-fill-clause-stopped : goal.returns-in_err-fill-clause-stopped
returns-in_err-fill-clause-stopped g c =
    let p = err_from_is_err_and c.from_residual-in_err-fill.result c.from_residual-in_err-fill.ensures.1 in
    rw (p.1, p.2) (rw c.in_ok-body.ensures.items at c.in_err-fill.ensures.stopped)

pub returns-clause-body : goal.returns-clause-body
returns-clause-body g c =
    body_cut _ _ _ _ _ _ (rw c.in_ok-body.ensures.items at c.in_ok-fill.ensures.got)
    (rw c.in_ok-body.ensures.items at c.in_ok-fill.ensures.last) (c.new.ensures ∙ c.truncate.ensures.items)
    (c.in_ok-fill.ensures.whole (grind arith))
    (rw c.in_ok-body.ensures.items at c.in_ok-fill.ensures.near)
