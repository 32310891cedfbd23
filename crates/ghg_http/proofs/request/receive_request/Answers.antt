use Rattle.std.proofs.Common.{[], arith, inl, inr, refl}
use Rattle.std.proofs.lemmas.Result.{err_from_is_err_and}
use Rattle.ghg_http.specs.Receive.{EndsEarly, IsPrompt}
use Rattle.ghg_http.proofs.Received.{all_read, follows, follows_stopped, grows_more, prompt_last, prompt_more, still_read, stopped_grown}
use Rattle.ghg_http.proofs.request.receive_request.Goals as goal

pub returns-in_err-receive-in-Unfinished-clause-stopped : goal.returns-in_err-receive-in-Unfinished-clause-stopped
returns-in_err-receive-in-Unfinished-clause-stopped g c =
    let residual = c.from_residual-in_err-receive-in-Unfinished in
    let p = err_from_is_err_and residual.result residual.ensures.1 in
    let head = rw c.deref.ensures.value at (rw c.in-Unfinished.is at c.in_ok-read_head.ensures) in
    rw (p.1, p.2)
    (stopped_grown EndsEarly IsPrompt _ _ _ [] _ _ c.head.invariant.0 (inl head)
    (prompt_last _ (inl head)) c.in_err-receive-in-Unfinished.ensures.stopped)

pub returns-then-branch-eq0-clause-request : goal.returns-then-branch-eq0-clause-request
returns-then-branch-eq0-clause-request g c =
    let head = rw c.deref.ensures.value at (rw c.in-Unfinished.is at c.in_ok-read_head.ensures) in
    let read = c.in_ok-receive-in-Unfinished.ensures in
    let none = c.if-branch-eq0.true in record {
      bytes = c.head.buffer.items;
      read = still_read _ _ _ _ _ _ c.head.invariant.0 read.got read.count none;
      holds = (read.end none, inl head);
    }

pub returns-in-Whole-clause-stopped : goal.returns-in-Whole-clause-stopped
returns-in-Whole-clause-stopped g c =
    let stopped = rw c.deref-in-Whole.ensures.value at c.receive_rest.ensures.stopped in
    follows_stopped _ _ _ _ c.receive_rest.result c.head.invariant.0 stopped

pub head-preserved : goal.head-preserved
head-preserved g c =
    let head = rw c.deref.ensures.value at (rw c.in-Unfinished.is at c.in_ok-read_head.ensures) in
    let read = c.in_ok-receive-in-Unfinished.ensures in (
      grows_more _ _ _ [] _ _ c.head.invariant.0 read.got,
      omega (arith, read.count, read.bound, c.len-room.ensures, c.head.invariant.1),
      prompt_more _ _ _ _ _ (inl head) read.got read.count read.once,
      grind (arith, c.head.invariant.3, read.counted.stays),
    )

pub returns-in-TooLarge-clause-request : goal.returns-in-TooLarge-clause-request
returns-in-TooLarge-clause-request g c =
    let head = rw c.deref.ensures.value at (rw c.in-TooLarge.is at c.in_ok-read_head.ensures) in record {
      bytes = c.head.buffer.items;
      read = all_read _ _ _ c.head.invariant.0;
      holds = ((inr (inl (refl, head)), c.head.invariant.1), c.head.invariant.2);
    }

pub returns-in-Whole-clause-request : goal.returns-in-Whole-clause-request
returns-in-Whole-clause-request g c =
    follows _ _ _ _ c.receive_rest.result c.head.invariant.0 (rw c.deref-in-Whole.ensures.value at c.receive_rest.ensures.request)
