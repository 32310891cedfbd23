-- The forms of a script's lines, as the parser reads them.
use Rattle.std.proofs.Common.{◌≡◌, ℕ, Bool, true, false, ◌&&◌, ◌==◌, ◌⊎◌, inl, inr, List, [], ◌∷◌, ◌++◌, length, take, drop, take-append-drop, refl, sym, ap, subst, ◌∙◌, arith, cond, Option, None, Some, nat_eq, nat_le, eqb-true, eq-eqb}
use Rattle.std.specs.Prelude.{codes}
use Rattle.std.specs.List.{list_all}
use Rattle.std.specs.Option.{option_and_then, option_map_or}
use Rattle.std.specs.Str.{bytes_eq}
use Rattle.std.proofs.lemmas.Bool.{and_parts}
use Rattle.std.proofs.lemmas.Option.{none-some, option_and_then_some, same_Some}
use Rattle.std.proofs.lemmas.Slice.Eq.{bytes_eq-Decides}
use Rattle.ghg_units.specs.Decimal.{number_in}
use Rattle.ghg_script.specs.declared.command.Line.{Line}
use Rattle.ghg_script.specs.declared.command.Line.TheVariants as line
use Rattle.ghg_script.specs.declared.script.TableQuery.{TableQuery}
use Rattle.ghg_script.specs.Commands.{lacks, split_at}
use Rattle.ghg_script.specs.Script.{IsFormOf, SaysForms, is_lower, script_forms, show_form, submit_form}
use Rattle.ghg_script.specs.Words.{IsYear, after_word, has_length, year_in}
use Rattle.ghg_script.proofs.Splits.{IsSplit, split_is, split_of}

-- ---- what gives something

-- a value that is given where a test holds
pub if_holds : {B : Type 0} (test : Bool) (o : Option B) (y : B) → cond test o None ≡ Some y
    → (test ≡ true) × (o ≡ Some y)
if_holds true o y h = (refl, h)
if_holds false o y h = absurd (none-some y h)

word_is : (word bytes rest : List ℕ) → after_word word bytes ≡ Some rest → bytes ≡ word ++ rest
word_is word bytes rest h =
    let cut = if_holds (bytes_eq (take (length word) bytes) word) (Some (drop (length word) bytes)) rest h in
    let prefix : take (length word) bytes ≡ word =
    (bytes_eq-Decides (take (length word) bytes) word).0 cut.0 in
    sym (take-append-drop (length word) bytes)
    ∙ ap (λ (l : List ℕ). l ++ drop (length word) bytes) prefix
    ∙ ap (λ (l : List ℕ). word ++ l) (same_Some (drop (length word) bytes) rest cut.1)

-- the bytes begin with the word, and what follows it says this
pub record Follows {B : Type 0} (word bytes : List ℕ) (says : List ℕ → Option B) (said : B) : Type 0 where
  pub words : List ℕ
  pub whole : bytes ≡ word ++ words
  pub is : says words ≡ Some said

pub follows : {B : Type 0} (word bytes : List ℕ) (says : List ℕ → Option B) (said : B)
    → option_and_then says (after_word word bytes) ≡ Some said → Follows word bytes says said
follows word bytes says said h =
    option_and_then_some says (after_word word bytes) said h
    (λ words e k. record { words = words; whole = word_is word bytes words e; is = k })

pub follows_or : {B : Type 0} (word bytes : List ℕ) (says : List ℕ → Option B) (other : Option B) (said : B)
    → option_map_or says (after_word word bytes) other ≡ Some said
    → Follows word bytes says said ⊎ (other ≡ Some said)
follows_or {B} word bytes says other said h = by (after_word word bytes) refl h
  where
    by : (o : Option (List ℕ)) → after_word word bytes ≡ o → option_map_or says o other ≡ Some said
        → Follows word bytes says said ⊎ (other ≡ Some said)
    by (Some words) e k = inl (record { words = words; whole = word_is word bytes words e; is = k })
    by None e k = inr k

-- what is made of a word that passes a test, and of the digits behind the space after it
abbrev pub cut_form : {A B : Type 0} → (List ℕ → Option A) → (List ℕ → Bool) → (List ℕ → A → B) → List ℕ
    → Option B
cut_form number test make words =
    option_and_then (λ parts.
    option_and_then (λ n. cond (test parts.0) (Some (make parts.0 n)) None) (number parts.1))
    (split_at 32 words)

pub record IsCut {A B : Type 0} (number : List ℕ → Option A) (test : List ℕ → Bool) (make : List ℕ → A → B)
    (words : List ℕ) (said : B) : Type 0 where
  pub word : List ℕ
  pub digits : List ℕ
  pub n : A
  pub split : IsSplit 32 words word digits
  pub number_is : number digits ≡ Some n
  pub fits : test word ≡ true
  pub made : make word n ≡ said

pub cut_is : {A B : Type 0} (number : List ℕ → Option A) (test : List ℕ → Bool) (make : List ℕ → A → B)
    (words : List ℕ) (said : B) → cut_form number test make words ≡ Some said
    → IsCut number test make words said
cut_is {A} {B} number test make words said h =
    let made : List ℕ → A → Option B = λ word n. cond (test word) (Some (make word n)) None in
    let by_parts : List ℕ × List ℕ → Option B = λ parts. option_and_then (made parts.0) (number parts.1) in
    option_and_then_some by_parts (split_at 32 words) said h
    (λ parts e k. option_and_then_some (made parts.0) (number parts.1) said k
    (λ n numbered f.
    let passed = if_holds (test parts.0) (Some (make parts.0 n)) said f in
    record {
      word = parts.0;
      digits = parts.1;
      n = n;
      split = split_is 32 words parts.0 parts.1 e;
      number_is = numbered;
      fits = passed.0;
      made = same_Some (make parts.0 n) said passed.1;
    }))

-- ---- words

-- lower-case letters are no spaces
no_space : (xs : List ℕ) → list_all is_lower xs ≡ true → lacks 32 xs ≡ true
no_space [] h = refl
no_space (x ∷ xs) h =
    let both = and_parts (is_lower x) (list_all is_lower xs) h in
    let low = (and_parts (nat_le 97 x) (nat_le x 122) both.0).0 in
    let other : nat_eq x 32 ≡ false = grind (arith, low) in
    rw (other, no_space xs both.1) refl

pub year_is : (digits : List ℕ) (year : ℕ) → year_in digits ≡ Some year → IsYear digits year
year_is digits year h =
    let four = if_holds (length digits == 4) (number_in 4 digits) year h in
    (eqb-true (length digits) 4 four.0, four.1)

pub year_of : (digits : List ℕ) (year : ℕ) → IsYear digits year → year_in digits ≡ Some year
year_of digits year y = let four : (length digits == 4) ≡ true = eq-eqb (length digits) 4 y.0 in rw four y.1

-- ---- from a form to its words

form_submit : (words : List ℕ) → script_forms (codes "SUBMIT " ++ words) ≡ submit_form words
unfolding script_forms
form_submit words = refl

form_show : (words : List ℕ) → script_forms (codes "SHOW " ++ words) ≡ show_form words
unfolding script_forms
form_show words = refl

form_end : script_forms (codes "END") ≡ Some line.End
unfolding script_forms
form_end = refl

pub says : (form : Line TableQuery) (text : List ℕ) → IsFormOf form text → script_forms text ≡ Some form
says (line.Submit id n) text f =
    ap script_forms f.1 ∙ form_submit (id ++ 32 ∷ f.0) ∙ rw (split_of 32 id f.0 f.2.1, f.3, f.2.0) refl
says (line.Query show) text f =
    ap script_forms f.1 ∙ form_show (show.table ++ 32 ∷ f.0)
    ∙ rw (split_of 32 show.table f.0 (no_space show.table f.3), year_of f.0 show.year f.4, f.2, f.3)
    refl
says line.End text e = ap script_forms e ∙ form_end

-- ---- from the words to a form

submit_is : (words : List ℕ) (form : Line TableQuery) → submit_form words ≡ Some form
    → IsFormOf form (codes "SUBMIT " ++ words)
submit_is words form h =
    let cut = cut_is (number_in 8) (has_length 1 60) (λ id n. line.Submit id n) words form h in
    subst (λ f. IsFormOf f (codes "SUBMIT " ++ words)) cut.made (
      cut.digits,
      ap (λ (l : List ℕ). codes "SUBMIT " ++ l) cut.split.whole,
      (cut.fits, cut.split.plain),
      cut.number_is,
    )

show_is : (words : List ℕ) (form : Line TableQuery) → show_form words ≡ Some form
    → IsFormOf form (codes "SHOW " ++ words)
show_is words form h =
    let cut = cut_is year_in (λ table. has_length 1 16 table && list_all is_lower table)
    (λ table year. line.Query (record { table = table; year = year })) words form h in
    let letters = and_parts (has_length 1 16 cut.word) (list_all is_lower cut.word) cut.fits in
    subst (λ f. IsFormOf f (codes "SHOW " ++ words)) cut.made (
      cut.digits,
      ap (λ (l : List ℕ). codes "SHOW " ++ l) cut.split.whole,
      letters.0,
      letters.1,
      year_is cut.digits cut.n cut.number_is,
    )

pub form_is : (text : List ℕ) (form : Line TableQuery) → script_forms text ≡ Some form → IsFormOf form text
unfolding script_forms
form_is text form h = by_end (bytes_eq text (codes "END")) refl h
  where
    behind : (word : List ℕ) (says : List ℕ → Option (Line TableQuery))
        → ((words : List ℕ) → says words ≡ Some form → IsFormOf form (word ++ words))
        → Follows word text says form → IsFormOf form text
    behind word says is found = subst (IsFormOf form) (sym found.whole) (is found.words found.is)

    by_word : Follows (codes "SUBMIT ") text submit_form form
        ⊎ (option_and_then show_form (after_word (codes "SHOW ") text) ≡ Some form) → IsFormOf form text
    by_word (inl found) = behind (codes "SUBMIT ") submit_form (λ words. submit_is words form) found
    by_word (inr later) =
        behind (codes "SHOW ") show_form (λ words. show_is words form)
        (follows (codes "SHOW ") text show_form form later)

    by_end : (same : Bool) → bytes_eq text (codes "END") ≡ same
        → cond same (Some line.End) (option_map_or submit_form (after_word (codes "SUBMIT ") text)
        (option_and_then show_form (after_word (codes "SHOW ") text))) ≡ Some form → IsFormOf form text
    by_end true e k =
        subst (λ f. IsFormOf f text) (same_Some line.End form k) ((bytes_eq-Decides text (codes "END")).0 e)
    by_end false e k = by_word (follows_or (codes "SUBMIT ") text submit_form _ form k)

pub says_forms : SaysForms script_forms IsFormOf
says_forms text form = (form_is text form, says form text)
