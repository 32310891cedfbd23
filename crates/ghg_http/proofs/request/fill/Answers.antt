use Rattle.std.proofs.Common.{◌<◌, arith, inl, inr, length, refl}
use Rattle.std.proofs.lemmas.Result.{err_from_is_err_and}
use Rattle.ghg_http.proofs.Received.{filled_last, filled_more, grows_more, grows_nothing, stopped_grown}
use Rattle.ghg_http.specs.Receive.{IsFilled}
use Rattle.ghg_http.proofs.request.fill.Goals as goal

pub loop-link-init : goal.loop-link-init
loop-link-init g c = (grows_nothing _ _, inl refl, inl refl, refl)

pub returns-in_err-receive-clause-stopped : goal.returns-in_err-receive-clause-stopped
returns-in_err-receive-clause-stopped g c =
    let p = err_from_is_err_and c.from_residual.result c.from_residual.ensures.1 in
    let room : length c.loop-link.body.items < c.args.size = omega (arith, c.loop-link-test.true, c.len.ensures) in
    rw (p.1, p.2)
    (stopped_grown (λ all. length all < c.args.size)
    (λ all. IsFilled c.args.body.now.items all c.args.size) _ _ _ _ _ _
    c.loop-link.invariant.0 room (filled_last _ _ _ _ _ c.loop-link.invariant.0 room)
    c.in_err-receive.ensures.stopped)

pub returns-then-branch-eq0-clause-got : goal.returns-then-branch-eq0-clause-got
returns-then-branch-eq0-clause-got g c = grows_more _ _ _ _ _ _ c.loop-link.invariant.0 c.in_ok-receive.ensures.got

pub returns-then-branch-eq0-clause-last : goal.returns-then-branch-eq0-clause-last
returns-then-branch-eq0-clause-last g c =
    let room : length c.loop-link.body.items < c.args.size = omega (arith, c.loop-link-test.true, c.len.ensures) in
    let read = c.in_ok-receive.ensures in
    filled_more _ _ _ _ _ _ _ _ c.loop-link.invariant.0 room read.got read.count read.once

pub loop-link-preserved : goal.loop-link-preserved
loop-link-preserved g c =
    let room : length c.loop-link.body.items < c.args.size = omega (arith, c.loop-link-test.true, c.len.ensures) in
    let read = c.in_ok-receive.ensures in (
      grows_more _ _ _ _ _ _ c.loop-link.invariant.0 read.got,
      filled_more _ _ _ _ _ _ _ _ c.loop-link.invariant.0 room read.got read.count read.once,
      inr (omega (arith, room, read.count, read.bound, c.len-in-loop-link.ensures)),
      grind (arith, c.loop-link.invariant.3, read.counted.stays),
    )
