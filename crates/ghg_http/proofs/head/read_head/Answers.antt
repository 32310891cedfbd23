use Rattle.std.proofs.Common.{◌≡◌, arith, map, take}
use Rattle.httparse.specs.Spans.{header_bytes}
use Rattle.ghg_http.specs.Fields.{field_parts}
use Rattle.ghg_http.proofs.Heads.{whole_head}
use Rattle.ghg_http.proofs.head.read_head.Goals as goal

pub returns-in_ok-fields-in-Ok-Complete : goal.returns-in_ok-fields-in-Ok-Complete
returns-in_ok-fields-in-Ok-Complete c =
    let done = rw c.in-Ok-Complete.field-0-is at c.in-Ok-Complete.ensures in
    let made = rw (
      c.of-in-Ok-Complete.ensures,
      c.target_of.ensures,
      c.path_of.ensures,
      c.in-Ok.ensures.cases.0,
      c.of.ensures,
      c.framing_of.ensures,
      c.deref.ensures.value,
    ) at c.decide-decision.ensures in
    let fields : map field_parts c.in_ok-fields-in-Ok-Complete.fields.items
    ≡ map (header_bytes c.args.bytes.now) (take c.in-Ok-Complete.head.headers c.parse_request.new.headers) = c.in_ok-fields-in-Ok-Complete.ensures in
    whole_head c.args.bytes.now c.parse_request.new.headers c.in-Ok-Complete.head done.complete.0
    c.in_ok-fields-in-Ok-Complete.fields.items c.decide-decision.result done.complete.1
    done.within.section.count_fits (omega arith) done.within.section.len_fits fields made
