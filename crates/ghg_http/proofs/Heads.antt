-- A head that the parser found decides what its parts decide.
use Rattle.std.proofs.Common.{◌≡◌, ℕ, ◌≤◌, List, length, map, take, ap, ◌∙◌, arith}
use Rattle.std.proofs.lemmas.List.{length-map, length-take-le}
use Rattle.httparse.specs.Grammar.{RequestHead}
use Rattle.httparse.specs.Spans.{IsRequestAt, header_bytes, span_bytes, name_and_value}
use Rattle.httparse.specs.declared.spans.HeaderSpan.{HeaderSpan}
use Rattle.httparse.specs.declared.spans.RequestSpans.{RequestSpans}
use Rattle.ghg_http.specs.declared.decision.Decision.{Decision}
use Rattle.ghg_http.specs.declared.fields.Field.{Field}
use Rattle.ghg_http.specs.Decision.{decision, decision_of, seen}
use Rattle.ghg_http.specs.Fields.{field_parts, framing}
use Rattle.ghg_http.specs.Head.{IsWhole}
use Rattle.ghg_http.specs.Route.{target_of, path_of}
use Rattle.ghg_http.proofs.Framings.{framing_same}

few_fields : (bytes : List ℕ) (spans : List HeaderSpan) (count : ℕ) (h : RequestHead)
    → map (header_bytes bytes) (take count spans) ≡ map name_and_value h.fields → count ≤ length spans → length spans ≤ 64
    → length h.fields ≤ 64
few_fields bytes spans count h e fits room =
    omega (arith, length-take-le count spans, simp length-map at (ap length e))

pub whole_head : (bytes : List ℕ) (spans : List HeaderSpan) (r : RequestSpans) (h : RequestHead) (fields : List Field) (made : Decision)
    → IsRequestAt bytes spans r h → r.headers ≤ length spans → length spans ≤ 64 → r.len ≤ length bytes
    → map field_parts fields ≡ map (header_bytes bytes) (take r.headers spans)
    → seen made
    ≡ decision (span_bytes bytes r.method) (target_of (path_of (span_bytes bytes r.path))) (framing field_parts fields)
    → IsWhole bytes made r.len
unfolding decision_of
whole_head bytes spans r h fields made at fits room inside same says = record {
  head = h;
  within = inside;
  size_is = at.len;
  reads = at.reads;
  few = few_fields bytes spans r.headers h at.fields fits room;
  decides = says
      ∙ ap (λ m. decision m (target_of (path_of (span_bytes bytes r.path))) (framing field_parts fields)) at.method
      ∙ ap (λ p. decision h.method (target_of (path_of p)) (framing field_parts fields)) at.path
      ∙ ap (λ f. decision h.method (target_of (path_of h.target)) f)
      (framing_same field_parts name_and_value fields h.fields (same ∙ at.fields));
}
