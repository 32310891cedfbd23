use Rattle.ghg_session.proofs.Writings.{stopped_early, writes_more}
use Rattle.ghg_session.proofs.session.write_lines.Goals as goal

pub returns-in-Err-clause-written : goal.returns-in-Err-clause-written
returns-in-Err-clause-written g c =
    let first = rw c.deref.ensures.value at c.in-Err.ensures.written in
    rw c.in-Long.is (stopped_early _ _ c.in-Long.first.items c.in-Long.below _ first)

pub returns-in-Ok-clause-written : goal.returns-in-Ok-clause-written
returns-in-Ok-clause-written g c =
    let first = rw c.deref.ensures.value at c.in-Ok.ensures.written in
    let below = rw c.as_slice-in-Ok.ensures at c.write_all-in-Ok.ensures.written in
    rw c.in-Long.is (writes_more _ _ _ c.in-Long.first.items c.in-Long.below _ first below)
