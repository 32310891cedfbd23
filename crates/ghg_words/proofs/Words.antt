-- What methods of `str` give, as a test and a cut.
use Rattle.std.proofs.Common.{◌≡◌, ℕ, ◌<◌, List, [], ◌∷◌, map, length, drop, Option, Some, None, option_map, nat_eq, Bor, sym, ap, ◌∙◌, refl, true, false, arith, subst}
use Rattle.std.specs.Prelude.{MatchOption, IsCharBoundary, if◌then◌else◌}
use Rattle.std.specs.Str.{bytes_eq}
use Rattle.std.specs.List.{list_any, starts_with, position_or_len, before_first, after_first}
use Rattle.std.specs.Str.Pattern.{FindsTextPrefix, StripsPrefix}
use Rattle.std.proofs.lemmas.Str.Pattern.{starts_text}
use Rattle.ghg_words.specs.Options.{is_among, is_equals, name_and_value, text_of}

-- `strip_prefix` at a text
pub stripped_text : (p s : List ℕ) (r : Option (Bor (List ℕ)))
    → MatchOption r (FindsTextPrefix p s None) (λ x. StripsPrefix (FindsTextPrefix p) s x.now)
    → option_map (λ x. x.now) r ≡ (if starts_with nat_eq s p then Some (drop (length p) s) else None)
stripped_text p s None h = rw (← starts_text false p s h) refl
stripped_text p s (Some x) h =
    let P : ℕ → Type 0 = λ n. IsCharBoundary s n in
    rw (← starts_text true p s (h.0, h.1, subst P (sym h.1.0) h.1.2)) (ap Some (h.2 ∙ ap (λ n. drop n s) h.1.0))

-- a text with an equals sign
pub name_and_value_there : (text name value : List ℕ) → name ≡ before_first is_equals text
    → value ≡ after_first is_equals text → position_or_len is_equals text < length text
    → name_and_value text ≡ (name, Some value)
name_and_value_there text name value n v lt = grind (arith, n, v, lt)

-- and one with none
pub name_and_value_none : (text : List ℕ) → position_or_len is_equals text ≡ length text → name_and_value text ≡ (text, None)
name_and_value_none text e = grind (arith, e)

-- a text is among texts that are borrowed
pub among_texts : (text : List ℕ) (texts : List (Bor (List ℕ)))
    → is_among text (map text_of texts) ≡ list_any (λ other. bytes_eq other.now text) texts
among_texts text [] = refl
among_texts text (x ∷ xs) = rw (among_texts text xs) refl
