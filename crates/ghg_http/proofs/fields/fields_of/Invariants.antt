use Rattle.std.proofs.Common.{◌≡◌, map, take}
use Rattle.httparse.specs.Spans.{header_bytes}
use Rattle.ghg_http.specs.Fields.{field_parts}
use Rattle.ghg_http.proofs.fields.fields_of.Given as goal

abbrev pub invariant-loop-span : goal.invariant-loop-span
invariant-loop-span l = map field_parts l.fields.items ≡ map (header_bytes l.buf) (take l.span-index l.spans)
