use Rattle.std.proofs.Common.{◌<◌, drop, length-take, sym, arith}
use Rattle.std.proofs.lemmas.Result.{err_from_is_err_and}
use Rattle.std.proofs.lemmas.List.{take-append-le}
use Rattle.ghg_script.proofs.Pieces.{kept_is_short, body_grows, body_found, body_ends, body_fails, body_stops}
use Rattle.ghg_script.proofs.reading.read_body.Goals as goal

pub returns-in-Ok-eq0-clause-parsed : goal.returns-in-Ok-eq0-clause-parsed
returns-in-Ok-eq0-clause-parsed g c =
    let none = c.in-Ok-eq0.field-0-test in
    let short : c.pieces.at < c.args.count = omega arith in
    let read = rw none at c.in-Ok-eq0.ensures.read in
    body_ends _ _ _ _ _ _ c.pieces.invariant.took read short (c.in-Ok-eq0.ensures.end none)

pub returns-in-Err-clause-parsed : goal.returns-in-Err-clause-parsed
returns-in-Err-clause-parsed g c =
    let short : c.pieces.at < c.args.count = omega arith in
    body_fails _ _ _ _ _ _ c.pieces.invariant.took c.in-Err.ensures.read short

pub keep_prefix-requires-clause-short : goal.keep_prefix-requires-clause-short
keep_prefix-requires-clause-short g c = rw c.reserve.ensures.items (kept_is_short _ _ c.pieces.invariant.took.prefix)

pub pieces-preserved : goal.pieces-preserved
pieces-preserved g c =
    let bound = c.in-Ok.ensures.bound in
    let kept = rw (c.reserve.ensures.items, take-append-le c.in-Ok.given c.read.new.buf (drop c.min-wanted.result c.pieces.block) bound.0)
    at c.keep_prefix.ensures in
    record {
      took = body_grows _ _ _ _ _ _ _ _ c.pieces.invariant.took c.in-Ok.ensures.read (sym bound.1) kept;
      stays = grind (arith, c.pieces.invariant.stays, c.in-Ok.ensures.counted.stays);
      within = omega (arith, length-take c.min-wanted.result c.pieces.block);
    }

pub returns-in_err-reserve-clause-parsed : goal.returns-in_err-reserve-clause-parsed
returns-in_err-reserve-clause-parsed g c =
    let short : c.pieces.at < c.args.count = omega arith in
    let p = err_from_is_err_and c.from_residual.result c.from_residual.ensures.1 in
    rw (p.1, p.2) (body_stops _ _ _ _ _ c.pieces.invariant.took short)

pub returns-clause-parsed : goal.returns-clause-parsed
returns-clause-parsed g c = body_found _ _ _ _ _ c.pieces.invariant.took (omega arith)
