-- A text of digits that `parse` refuses is above each bound that fits its type.
use Rattle.std.proofs.Common.{◌≡◌, ℕ, ◌<◌, ◌^◌, List, length, None, Result, Ok, Err, true, arith, refl, rules, inl, inr}
use Rattle.std.specs.List.{list_all}
use Rattle.std.specs.Result.{result_ok}
use Rattle.std.specs.Char.{is_ascii_digit}
use Rattle.std.specs.Str.Parse.{digits_value, ParsesUnsigned}
use Rattle.std.proofs.lemmas.Str.Parse.{IsNumeralModel, numerals_by_value, parse_digits}
use Rattle.std.proofs.lemmas.Bool.{cases_lt}
use Rattle.ghg_words.specs.Values.{number_within}

digits : IsNumeralModel (λ ds. list_all is_ascii_digit ds ≡ true) (digits_value 10)
digits = numerals_by_value _ (search rules)

above : (low high v : ℕ) (text : List ℕ) → v ≡ digits_value 10 text → high < v → number_within low high text ≡ None
unfolding number_within
above low high v text e over = grind (arith, e, over)

empty : (low high : ℕ) (text : List ℕ) → length text ≡ 0 → number_within low high text ≡ None
unfolding number_within
empty low high text none = grind (arith, none)

pub number_not_parsed : {E : Type 0} (low high : ℕ) (text : List ℕ) (r : Result ℕ E) → ParsesUnsigned 32 10 text r
    → list_all is_ascii_digit text ≡ true → high < 2 ^ 32 → result_ok r ≡ None → number_within low high text ≡ None
number_not_parsed low high text (Ok n) h all small none = absurd (cc)
number_not_parsed low high text (Err x) h all small none =
    let never = parse_digits digits 32 text (Err x) h all in
    elim (cases_lt 0 (length text)) [
      | inr empty_text ↦ empty low high text (omega arith)
      | inl some ↦ elim (cases_lt (digits_value 10 text) (2 ^ 32)) [
        | inl fits ↦ absurd (never (some, fits))
        | inr over ↦ above low high _ text refl (omega arith)
      ]
    ]
