use Rattle.std.proofs.lemmas.Result.{err_from_is_err_and}
use Rattle.ghg_http.proofs.Received.{cuts, refuses, shows, stops_at_head, stops_short, submits}
use Rattle.ghg_http.proofs.request.receive_rest.Goals as goal

pub returns-in-Refuse-clause-request : goal.returns-in-Refuse-clause-request
returns-in-Refuse-clause-request g c = refuses _ _ _ c.requires.whole c.requires.short _ _ c.requires.prompt c.in-Refuse.is

pub returns-in_ok-table-in-Show-clause-request : goal.returns-in_ok-table-in-Show-clause-request
returns-in_ok-table-in-Show-clause-request g c =
    shows _ _ _ c.requires.whole c.requires.short _ c.in-Show.table _ c.in-Show.year c.requires.prompt c.in-Show.is
    c.in_ok-table-in-Show.ensures

pub returns-in_err-table-in-Show-clause-stopped : goal.returns-in_err-table-in-Show-clause-stopped
returns-in_err-table-in-Show-clause-stopped g c =
    let residual = c.from_residual in
    let p = err_from_is_err_and residual.result residual.ensures.1 in
    rw (p.1, p.2) (stops_at_head _ _ _ c.requires.whole c.requires.short _ c.requires.prompt)

pub returns-in-Some-clause-request : goal.returns-in-Some-clause-request
returns-in-Some-clause-request g c =
    let came = rw (c.in-Some.is, c.split_at.ensures.back) at c.in_ok-body-in-Submit.ensures.body in
    let count = rw c.in-Some.is at c.in_ok-body-in-Submit.ensures.size in
    submits _ _ _ c.requires.whole c.requires.short _ _ c.in-Submit.id c.in-Submit.body_size _ _ c.requires.prompt c.in-Submit.is
    c.in_ok-id-in-Submit.ensures came count

pub returns-in-None-clause-request : goal.returns-in-None-clause-request
returns-in-None-clause-request g c =
    let cut = rw (c.in-None.is, c.split_at.ensures.back) at c.in_ok-body-in-Submit.ensures.body in
    cuts _ _ _ c.requires.whole c.requires.short _ _ c.in-Submit.id c.in-Submit.body_size c.in-Submit.is cut

pub returns-in_err-body-in-Submit-clause-stopped : goal.returns-in_err-body-in-Submit-clause-stopped
returns-in_err-body-in-Submit-clause-stopped g c =
    let residual = c.from_residual-in_err-body-in-Submit in
    let p = err_from_is_err_and residual.result residual.ensures.1 in
    let stopped = rw c.split_at.ensures.back at c.in_err-body-in-Submit.ensures.stopped in
    rw (p.1, p.2)
    (stops_short _ _ _ c.requires.whole c.requires.short _ _ _ c.in-Submit.id c.in-Submit.body_size
    c.requires.prompt c.in-Submit.is stopped)
