-- A line that is read byte by byte, and a body that is read block by block, of which a prefix is kept.
use Rattle.std.proofs.Common.{◌≡◌, ℕ, zero, suc, ◌+◌, ◌-◌, ◌≤◌, ◌<◌, Bool, true, false, not, ◌&&◌, ◌==◌, List, [], ◌∷◌, ◌++◌, length, take, length-append, length-take, refl, sym, ap, ◌∙◌, arith, inl, inr, Some, None, nat_le}
use Rattle.std.proofs.lemmas.List.{take_at, drop_at}
use Rattle.std.proofs.lemmas.List.Folds.{list_all-append}
use Rattle.ghg_outer.specs.Tape.{Consumes, IsAtEnd, Tape}
use Rattle.ghg_outer.proofs.Tapes.{consumes_more, consumes_no_more}
use Rattle.ghg_words.specs.declared.status.Status.{Status}
use Rattle.ghg_words.specs.declared.status.Status.TheVariants.{InputFailed, OutOfMemory}
use Rattle.ghg_script.specs.Commands.{bodies, body_at, lacks, line_of, lines, longest_line, most_kept}
use Rattle.ghg_script.specs.Reader.{Found, Missing, Stopped}
use Rattle.ghg_script.proofs.Splits.{line_cut, line_ends, line_too_long}

pub line_grows : (b : ℕ) (line : List ℕ) → not (b == 10) ≡ true → lacks 10 line ≡ true → lacks 10 (line ++ b ∷ []) ≡ true
line_grows b line e h = list_all-append (λ x. not (x == 10)) line (b ∷ []) ∙ both (lacks 10 line) (lacks 10 (b ∷ [])) h (both (not (b == 10)) true e refl)
  where
    both : (x y : Bool) → x ≡ true → y ≡ true → (x && y) ≡ true
    both x y h k = rw (h, k) refl

pub missing_feed : (a b c : Tape) (line : List ℕ) → Consumes a b line → lacks 10 line ≡ true → length line ≤ longest_line + 1
    → IsAtEnd c × Consumes b c [] → Missing lines a c
missing_feed a b c line p h near end =
    record { text = line; read = consumes_no_more a b c line p end.1; none = inl (end.0, line_cut line h); near = near }

pub missing_short_line : (a b : Tape) (line : List ℕ) → Consumes a b line → lacks 10 line ≡ true → length line ≤ longest_line + 1
    → longest_line < length line → Missing lines a b
missing_short_line a b line p h near far = record { text = line; read = p; none = inr (line_too_long line far h); near = near }

pub found_line : (a b c : Tape) (line : List ℕ) → Consumes a b line → lacks 10 line ≡ true → length line ≤ longest_line
    → Consumes b c (10 ∷ []) → Found lines a c line
found_line a b c line p h short q =
    record { text = line_of line; read = consumes_more a b c line (10 ∷ []) p q; each = λ rest. line_ends line rest short h }

-- the source failed within the line
pub stopped_in_line : (a b c : Tape) (line : List ℕ) (stop : Status) → Consumes a b line → lacks 10 line ≡ true
    → length line ≤ longest_line + 1 → Consumes b c [] × (stop ≡ InputFailed) → Stopped lines a c stop
stopped_in_line a b c line stop p h near s = record {
  text = line;
  read = consumes_no_more a b c line p s.0;
  none = line_cut line h;
  near = near;
  why = inl s.1;
}

-- ---- a body

pub whole_body : (text rest : List ℕ) (n : ℕ) → length text ≡ n → body_at n (text ++ rest) ≡ Some (take most_kept text, rest)
whole_body text rest n e =
    let fits : nat_le n (length (text ++ rest)) ≡ true = grind (arith, length-append text rest) in
    rw (fits, take_at text rest n e, drop_at text rest n e) refl

short_body : (text : List ℕ) (n : ℕ) → length text < n → body_at n text ≡ None
short_body text n h = let fails : nat_le n (length text) ≡ false = grind arith in rw fails refl

-- So many bytes of a body were read, and of them the prefix was kept.
pub record TookPart (before after : Tape) (count : ℕ) (kept : List ℕ) : Type 0 where
  pub text : List ℕ
  pub read : Consumes before after text
  pub whole : length text ≡ count
  pub prefix : kept ≡ take most_kept text

pub kept_is_short : (text kept : List ℕ) → kept ≡ take most_kept text → length kept ≤ most_kept
kept_is_short text kept e = omega (arith, ap length e, length-take most_kept text)

prefix_of_both : (most : ℕ) (xs ys : List ℕ) → take most (xs ++ ys) ≡ take most xs ++ take (most - length xs) ys
prefix_of_both zero xs ys = let none : 0 - length xs ≡ 0 = omega arith in rw none refl
prefix_of_both (suc most) [] ys = let all : suc most - 0 ≡ suc most = omega arith in rw all refl
prefix_of_both (suc most) (x ∷ xs) ys =
    let less : suc most - suc (length xs) ≡ most - length xs = omega arith in
    rw less (ap (λ (l : List ℕ). x ∷ l) (prefix_of_both most xs ys))

kept_more : (most : ℕ) (text kept piece : List ℕ) → kept ≡ take most text → kept ++ take (most - length kept) piece ≡ take most (text ++ piece)
kept_more most text kept piece e =
    let room : most - length kept ≡ most - length text = omega (arith, ap length e, length-take most text) in
    rw (room, e) (sym (prefix_of_both most text piece))

pub body_grows : (a b c : Tape) (at given : ℕ) (kept kept' piece : List ℕ) → TookPart a b at kept → Consumes b c piece
    → length piece ≡ given → kept' ≡ kept ++ take (most_kept - length kept) piece → TookPart a c (at + given) kept'
body_grows a b c at given kept kept' piece p q e f = record {
  text = p.text ++ piece;
  read = consumes_more a b c p.text piece p.read q;
  whole = length-append p.text piece ∙ ap (λ (n : ℕ). n + length piece) p.whole ∙ ap (λ (n : ℕ). at + n) e;
  prefix = f ∙ kept_more most_kept p.text kept piece p.prefix;
}

-- all of the body was read
pub body_found : (a b : Tape) (at count : ℕ) (kept : List ℕ) → TookPart a b at kept → at ≡ count → Found (bodies count) a b kept
body_found a b at count kept p e =
    record { text = p.text; read = p.read; each = λ rest. rw p.prefix (whole_body p.text rest count (p.whole ∙ e)) }

-- the input ended within the body
pub body_ends : (a b c : Tape) (at count : ℕ) (kept : List ℕ) → TookPart a b at kept → Consumes b c [] → at < count
    → IsAtEnd c → Missing (bodies count) a c
body_ends a b c at count kept p q h end = record {
  text = p.text;
  read = consumes_no_more a b c p.text p.read q;
  none = inl (end, short_body p.text count (omega (arith, h, p.whole)));
  near = omega (arith, h, p.whole);
}

-- the source failed within the body
pub body_fails : (a b c : Tape) (at count : ℕ) (kept : List ℕ) → TookPart a b at kept → Consumes b c [] → at < count
    → Stopped (bodies count) a c InputFailed
body_fails a b c at count kept p q h = record {
  text = p.text;
  read = consumes_no_more a b c p.text p.read q;
  none = short_body p.text count (omega (arith, h, p.whole));
  near = omega (arith, h, p.whole);
  why = inl refl;
}

-- out of memory within the body
pub body_stops : (a b : Tape) (at count : ℕ) (kept : List ℕ) → TookPart a b at kept → at < count → Stopped (bodies count) a b OutOfMemory
body_stops a b at count kept p h = record {
  text = p.text;
  read = p.read;
  none = short_body p.text count (omega (arith, h, p.whole));
  near = omega (arith, h, p.whole);
  why = inr refl;
}
