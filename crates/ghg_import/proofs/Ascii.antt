-- The fields of a record of ASCII are UTF-8.
use Rattle.std.proofs.Common.{◌≡◌, ◌-◌, ℕ, take, drop, List, [], ◌∷◌, true, refl}
use Rattle.std.specs.List.{list_all}
use Rattle.std.specs.Str.{IsAscii, is_utf8}
use Rattle.std.proofs.lemmas.Str.{IsAscii-drop, IsAscii-take, IsUtf8-from_ascii, is_utf8-from_IsUtf8}
use Rattle.csv.specs.Records.{Row, cut_from, fields_of, text_of}
use Rattle.ghg_import.specs.Shape.{is_text}

ascii_fields : (start : ℕ) (ends bytes : List ℕ) → IsAscii bytes
    → list_all is_utf8 (cut_from start ends bytes) ≡ true
unfolding cut_from
ascii_fields start [] bytes ascii = refl
ascii_fields start (end ∷ ends) bytes ascii =
    let field : List ℕ = take (end - start) (drop start bytes) in
    let rest : IsAscii (drop start bytes) = IsAscii-drop bytes start ascii in
    let low : IsAscii field = IsAscii-take (drop start bytes) (end - start) rest in
    let text : is_utf8 field ≡ true = is_utf8-from_IsUtf8 field (IsUtf8-from_ascii field low) in
    rw (text, ascii_fields end ends bytes ascii) refl

pub ascii_is_text : (row : Row) → IsAscii (text_of row) → is_text (fields_of row) ≡ true
unfolding is_text
ascii_is_text row ascii = ascii_fields 0 row.ends row.bytes ascii
