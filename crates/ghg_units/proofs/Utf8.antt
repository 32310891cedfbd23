-- The texts of refusals are UTF-8.
use Rattle.std.proofs.Common.{◌≡◌, ℕ, Bool, true, false, ◌||◌, ◌<◌, ◌^◌, List, [], ◌∷◌, ◌++◌, Result, Ok, Err, codes, refl, sym, subst, arith}
use Rattle.std.specs.Prelude.{IsTrue, OnOk, decimal, nat_lt}
use Rattle.std.specs.List.{list_all}
use Rattle.std.specs.Str.{IsAscii, IsUtf8, bytes_eq}
use Rattle.std.specs.Cmp.Lexicographic.{bytes_decides}
use Rattle.std.proofs.lemmas.Bool.Decides.{nat_tests}
use Rattle.std.proofs.lemmas.Fmt.{IsAscii-decimal}
use Rattle.std.proofs.lemmas.Str.{IsUtf8-append, IsUtf8-from_ascii}
use Rattle.std.proofs.lemmas.Str.Ascii.{IsAscii-nil, IsAscii-cons}
use Rattle.ghg_categories.specs.Tree.{code_of}
use Rattle.ghg_units.specs.Name.{is_name, is_name_byte}
use Rattle.ghg_units.specs.Parameter.{is_parameter, is_parameter_byte, stands_for_parameter, uncertainty_word}
use Rattle.ghg_units.specs.Refusals.{Spells, SpellsNode, column_word, limit_word, node_text, refusal_text}
use Rattle.ghg_units.specs.declared.node.Node.{Node}
use Rattle.ghg_units.specs.declared.node.Node.TheVariants as node
use Rattle.ghg_units.specs.declared.rule.Column.{Column}
use Rattle.ghg_units.specs.declared.rule.Column.TheVariants as columns
use Rattle.ghg_units.specs.declared.rule.Limit.{Limit}
use Rattle.ghg_units.specs.declared.rule.Limit.TheVariants as limits
use Rattle.ghg_units.specs.declared.rule.Rule.{Rule}
use Rattle.ghg_units.specs.declared.rule.Rule.TheVariants as rules

-- ---- bytes that pass a test which none above ASCII passes

module _ (test : ℕ → Bool) (below : (b : ℕ) → test b ≡ true → b < 128) where
  ascii_by : (xs : List ℕ) → list_all test xs ≡ true → IsAscii xs
  ascii_by [] e = IsAscii-nil
  ascii_by (x ∷ xs) e =
      let first : test x ≡ true = grind (arith, e) in
      let others : list_all test xs ≡ true = grind (arith, e) in
      IsAscii-cons x xs (below x first) (ascii_by xs others)

  utf8_by : (xs : List ℕ) → list_all test xs ≡ true → IsUtf8 xs
  utf8_by xs e = IsUtf8-from_ascii xs (ascii_by xs e)

-- a text whose bytes are seen
abbrev is_low : ℕ → Bool
is_low b = nat_lt b 128

seen : (xs : List ℕ) → list_all is_low xs ≡ true → IsUtf8 xs
seen xs e = utf8_by is_low (λ b h. grind (arith, nat_tests, h)) xs e

name_utf8 : (name : List ℕ) → IsTrue (is_name name) → IsUtf8 name
name_utf8 name h =
    let bytes : list_all is_name_byte name ≡ true = grind (arith, h) in
    utf8_by is_name_byte (λ b e. grind (arith, nat_tests, e)) name bytes

parameter_utf8 : (name : List ℕ) → IsTrue (stands_for_parameter name) → IsUtf8 name
parameter_utf8 name h = by (is_parameter name) refl (bytes_eq name uncertainty_word) refl h
  where
    by : (p : Bool) → is_parameter name ≡ p → (w : Bool) → bytes_eq name uncertainty_word ≡ w → (p || w) ≡ true → IsUtf8 name
    by true e w f h =
        let bytes : list_all is_parameter_byte name ≡ true = grind (arith, e) in
        utf8_by is_parameter_byte (λ b e. grind (arith, nat_tests, e)) name bytes
    by false e true f h = subst IsUtf8 (sym ((bytes_decides name uncertainty_word).0 f)) (seen uncertainty_word refl)
    by false e false f h = absurd (cc)

column_utf8 : (column : Column) → IsUtf8 (column_word column)
column_utf8 columns.Act = seen _ refl
column_utf8 columns.Kind = seen _ refl
column_utf8 columns.Subject = seen _ refl
column_utf8 columns.Name = seen _ refl
column_utf8 columns.Year = seen _ refl
column_utf8 columns.Value = seen _ refl
column_utf8 columns.Low = seen _ refl
column_utf8 columns.High = seen _ refl
column_utf8 columns.Unit = seen _ refl
column_utf8 columns.Note = seen _ refl

limit_utf8 : (limit : Limit) → IsUtf8 (limit_word limit)
limit_utf8 limits.Lines = seen _ refl
limit_utf8 limits.Records = seen _ refl
limit_utf8 limits.Span = seen _ refl
limit_utf8 limits.Bytes = seen _ refl

-- ---- the parts of a text

decimal_utf8 : (n : ℕ) → n < 2 ^ 64 → IsUtf8 (decimal n)
decimal_utf8 n small = IsUtf8-from_ascii (decimal n) (IsAscii-decimal n small)

-- words between two texts
behind : (text words more : List ℕ) → IsUtf8 text → list_all is_low words ≡ true → IsUtf8 more → IsUtf8 (text ++ words ++ more)
behind text words more h low m =
    IsUtf8-append (text ++ words) more (IsUtf8-append text words h (seen words low)) m

module _ (words : List ℕ) (low : list_all is_low words ≡ true) where
  before : (text : List ℕ) → IsUtf8 text → IsUtf8 (words ++ text)
  before text h = IsUtf8-append words text (seen words low) h

  numbered_utf8 : (n : ℕ) → n < 2 ^ 64 → IsUtf8 (words ++ decimal n)
  numbered_utf8 n small = before (decimal n) (decimal_utf8 n small)

  placed_utf8 : (row : ℕ) (column : Column) → row < 2 ^ 64 → IsUtf8 (words ++ decimal row ++ codes " column " ++ column_word column)
  placed_utf8 row column small =
      behind (words ++ decimal row) (codes " column ") (column_word column) (before (decimal row) (decimal_utf8 row small))
      refl (column_utf8 column)

  paired_utf8 : (line parameter : List ℕ) → IsUtf8 line → IsUtf8 parameter → IsUtf8 (words ++ line ++ codes " " ++ parameter)
  paired_utf8 line parameter l p = behind (words ++ line) (codes " ") parameter (before line l) refl p

  dated_utf8 : (name : List ℕ) (year : ℕ) → IsUtf8 name → year < 2 ^ 64 → IsUtf8 (words ++ name ++ codes ":" ++ decimal year)
  dated_utf8 name year h small =
      behind (words ++ name) (codes ":") (decimal year) (before name h) refl (decimal_utf8 year small)

-- ---- refusals

node_utf8 : (n : Node) → SpellsNode n → IsUtf8 (node_text n)
unfolding node_text
node_utf8 (node.Line name year) h = dated_utf8 (codes "line:") refl name year (name_utf8 name h.0) h.1
node_utf8 (node.Equiv name year) h = dated_utf8 (codes "equiv:") refl name year (name_utf8 name h.0) h.1
node_utf8 (node.Total category year) h = dated_utf8 (codes "total:") refl (code_of category) year h.0 h.1
node_utf8 (node.Gross year) h = before (codes "gross:") refl (decimal year) (decimal_utf8 year h)

refusal_utf8 : (rule : Rule) → Spells rule → IsUtf8 (refusal_text rule)
refusal_utf8 rules.BadId h = seen _ refl
refusal_utf8 (rules.IdReused seq) h = numbered_utf8 (codes "2 IdReused ") refl seq h
refusal_utf8 rules.BodyTooLong h = seen _ refl
refusal_utf8 (rules.BadShape row) h = numbered_utf8 (codes "4 BadShape row ") refl row h
refusal_utf8 (rules.UnknownWord row column) h = placed_utf8 (codes "5 UnknownWord row ") refl row column h
refusal_utf8 (rules.BadNumber row column) h = placed_utf8 (codes "6 BadNumber row ") refl row column h
refusal_utf8 (rules.BoundsDisorder row) h = numbered_utf8 (codes "7 BoundsDisorder row ") refl row h
refusal_utf8 (rules.WrongUnit row) h = numbered_utf8 (codes "8 WrongUnit row ") refl row h
refusal_utf8 (rules.Exists row) h = numbered_utf8 (codes "9 Exists row ") refl row h
refusal_utf8 (rules.Absent row) h = numbered_utf8 (codes "9 Absent row ") refl row h
refusal_utf8 (rules.BadBinding line parameter) h =
    paired_utf8 (codes "10 BadBinding ") refl line parameter (name_utf8 line h.0) (parameter_utf8 parameter h.1)
refusal_utf8 (rules.TooMany limit) h = before (codes "11 TooMany ") refl (limit_word limit) (limit_utf8 limit)
refusal_utf8 (rules.Cycle line) h = before (codes "12 Cycle ") refl line (name_utf8 line h)
refusal_utf8 (rules.Overflow n) h = before (codes "13 Overflow ") refl (node_text n) (node_utf8 n h)

pub appended_utf8 : {A E : Type 0} (rule : Rule) (r : Result A E) → OnOk r (Spells rule) → OnOk r (IsUtf8 (refusal_text rule))
appended_utf8 rule (Ok v) h = refusal_utf8 rule h
appended_utf8 rule (Err e) h = tt
