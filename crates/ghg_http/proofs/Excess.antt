-- A head of which a front has too many fields has too many.
use Rattle.std.proofs.Common.{◌≡◌, ℕ, ◌<◌, List, [], ◌∷◌, ◌++◌, length, refl, sym, ap, subst, ◌∙◌, append_assoc, append-nil, length-append, arith}
use Rattle.std.specs.List.{flat_map}
use Rattle.std.proofs.lemmas.List.{append_cancel_right}
use Rattle.httparse.specs.Grammar.{IsRequestHead, LineEnd, ReadsRequest, RequestHead, crlf, lf, print_blank, print_end, print_field, print_version}
use Rattle.httparse.specs.Pieces.{FieldLines, RequestStart, Section}
use Rattle.httparse.specs.Spans.{RequestExceeds}
use Rattle.httparse.proofs.GrammarLemmas.{print_request-append, request_pieces, request_tree}
use Rattle.httparse.proofs.PieceLemmas.{RequestStart_deterministic, Section_skip, Stops_token}

-- the lines before the fields, and then these bytes
abbrev start : RequestHead → List ℕ → List ℕ
start h rest =
    print_blank h.blank ++ (h.method ++ 32 ∷ (h.target ++ 32 ∷ (print_version h.minor ++ (print_end h.line_end ++ rest))))

start-append : (h : RequestHead) (a b : List ℕ) → start h (a ++ b) ≡ start h a ++ b
start-append h a b =
    regroup (print_blank h.blank) h.method h.target (print_version h.minor) (print_end h.line_end)
  where
    regroup : (c d e f g : List ℕ)
        → c ++ (d ++ 32 ∷ (e ++ 32 ∷ (f ++ (g ++ (a ++ b))))) ≡ (c ++ (d ++ 32 ∷ (e ++ 32 ∷ (f ++ (g ++ a))))) ++ b
    regroup c d e f g = simp append_assoc

starts : (h : RequestHead) → IsRequestHead h → (rest : List ℕ) → RequestStart (request_tree h).0 (start h rest) rest
starts h valid rest = (
  _,
  (refl, Stops_token h.method _ valid.method.0 valid.method.1),
  (
    _,
    (valid.method.0, valid.method.1, refl),
    (
      _,
      ((valid.target.0, valid.target.1, refl), valid.target_text),
      (_, (valid.minor, refl), refl),
    ),
  ),
)

-- the field lines, printed
abbrev lines : RequestHead → List ℕ
lines h = flat_map print_field h.fields

-- A head but for its last line feed is the lines up to its fields, and at most one byte more.
front_of : (front : List ℕ) (h : RequestHead) (last : LineEnd) → front ++ print_end lf ≡ start h (lines h ++ print_end last)
    → (more : List ℕ) × (front ≡ start h (lines h ++ more))
front_of front h lf e = (
  [],
  append_cancel_right front _ (print_end lf) (e ∙ start-append h (lines h) (print_end lf))
      ∙ ap (start h) (sym (append-nil (lines h))),
)
front_of front h crlf e = (
  13 ∷ [],
  append_cancel_right front _ (print_end lf)
      (e ∙ ap (start h) (sym (append_assoc (lines h) (13 ∷ []) (print_end lf)))
      ∙ start-append h (lines h ++ 13 ∷ []) (print_end lf)),
)

pub exceeds : (room : ℕ) (bytes : List ℕ) (h : RequestHead) (rest : List ℕ) → ReadsRequest bytes h rest
    → RequestExceeds room bytes → room < length h.fields
exceeds room bytes h rest reads over =
    let front = over.0 in
    let k = over.3 in
    let printed : front ++ print_end lf ≡ start k (lines k ++ print_end k.last) =
    over.4.1 ∙ print_request-append k [] ∙ ap (start k) (append-nil _) in
    let cut = front_of front k k.last printed in
    let behind = cut.0 ++ over.1 in
    let text : start k (lines k ++ behind) ≡ bytes =
    ap (start k) (sym (append_assoc (lines k) cut.0 over.1)) ∙ start-append k (lines k ++ cut.0) over.1
    ∙ ap (λ t. t ++ over.1) (sym cut.1) ∙ sym over.2 in
    let begun : RequestStart (request_tree k).0 bytes (lines k ++ behind) =
    subst (λ t. RequestStart (request_tree k).0 t (lines k ++ behind)) text (starts k over.4.0 (lines k ++ behind)) in
    let pieces = request_pieces bytes h rest reads in
    let same = RequestStart_deterministic.unique _ _ bytes _ _ begun pieces.1 in
    let section : Section (h.fields, h.last) (lines k ++ behind) rest =
    subst (λ t. Section (h.fields, h.last) t rest) (sym same.1) pieces.2 in
    let found : FieldLines k.fields (lines k ++ behind) behind = (over.4.0.fields, refl) in
    let skipped = Section_skip k.fields h.fields h.last (lines k ++ behind) behind rest found section in
    let size = ap length skipped.1 ∙ length-append k.fields skipped.0 in
    omega (arith, size, over.5)
