use Rattle.std.proofs.Common.{rules, ◌≡◌, ◌≤◌, length, not, ◌==◌, true, refl, arith}
use Rattle.std.proofs.lemmas.Grind.{common_steps}
use Rattle.std.proofs.lemmas.Result.{err_from_is_err_and}
use Rattle.ghg_outer.proofs.Tapes.{consumes_more, consumes_nothing}
use Rattle.ghg_script.specs.Commands.{longest_line}
use Rattle.ghg_script.proofs.Pieces.{found_line, line_grows, missing_feed, missing_short_line, stopped_in_line}
use Rattle.ghg_script.proofs.reading.read_line.Goals as goal

pub bytes-init : goal.bytes-init
bytes-init g c = rw c.new-line.ensures record {
  read = consumes_nothing _;
  stays = refl;
  plain = refl;
  short = omega arith;
}

pub returns-in_err-next_byte-clause-parsed : goal.returns-in_err-next_byte-clause-parsed
returns-in_err-next_byte-clause-parsed g c =
    let p = err_from_is_err_and c.from_residual.result c.from_residual.ensures.1 in
    rw (p.1, p.2) (stopped_in_line _ _ _ _ _ c.bytes.invariant.read c.bytes.invariant.plain c.bytes.invariant.short c.in_err-next_byte.ensures.read)

pub returns-in-None-clause-parsed : goal.returns-in-None-clause-parsed
returns-in-None-clause-parsed g c =
    missing_feed _ _ _ _ c.bytes.invariant.read c.bytes.invariant.plain c.bytes.invariant.short (rw c.in-None.is at c.in_ok-next_byte.ensures.read)

pub returns-in-Some-eq10-clause-parsed : goal.returns-in-Some-eq10-clause-parsed
returns-in-Some-eq10-clause-parsed g c =
    let short : length c.bytes.line.items ≤ longest_line = omega arith in
    let byte = rw c.in-Some-eq10.is at c.in_ok-next_byte.ensures.read in
    let feed = rw c.in-Some-eq10.field-0-test at byte in
    found_line _ _ _ _ c.bytes.invariant.read c.bytes.invariant.plain short feed

pub bytes-preserved : goal.bytes-preserved
bytes-preserved g c =
    let byte = rw c.in-Some.is at c.in_ok-next_byte.ensures.read in
    let other : not (c.in-Some.byte == 10) ≡ true = search rules in
    rw c.push.ensures.items record {
      read = consumes_more _ _ _ _ _ c.bytes.invariant.read byte;
      stays = grind (arith, c.bytes.invariant.stays, c.in_ok-next_byte.ensures.counted.stays);
      plain = line_grows c.in-Some.byte c.bytes.line.items other c.bytes.invariant.plain;
      short = grind (arith, common_steps);
    }

pub returns-clause-parsed : goal.returns-clause-parsed
returns-clause-parsed g c = missing_short_line _ _ _ c.bytes.invariant.read c.bytes.invariant.plain c.bytes.invariant.short (omega arith)
