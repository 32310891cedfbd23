-- A text reads as a decimal exactly where it writes that decimal.
use Rattle.std.proofs.Common.{◌≡◌, ◌≢◌, ◌<◌, ◌≤◌, ◌+◌, ◌-◌, ◌*◌, ◌^◌, ◌++◌, ◌∷◌, [], ◌∙◌, ◌==◌, ◌&&◌, cond, ℕ, ℤ, pos, neg_ℤ, Bool, true, false, List, length, take, drop, get_or, Option, Some, None, refl, sym, ap, arith, nat_lt, nat_le, length-append, take-append-drop}
use Rattle.std.proofs.lemmas.Bool.Decides.{nat_tests}
use Rattle.std.proofs.lemmas.List.{append-nil, drop_more}
use Rattle.std.proofs.lemmas.List.Folds.{list_all-append}
use Rattle.std.proofs.lemmas.List.Quantifiers.{position-Some}
use Rattle.std.proofs.lemmas.List.Sums.{fold-append, position_or_len_is}
use Rattle.std.proofs.lemmas.Nat.{pow-add}
use Rattle.std.proofs.lemmas.Option.{option_and_then_some}
use Rattle.std.proofs.lemmas.Str.Parse.{not_in_digits}
use Rattle.std.proofs.Math.ListN.{get_or-append}
use Rattle.std.proofs.Math.Nat.{pow-suc}
use Rattle.std.proofs.Math.Seq.{take-append_seam, drop-append-add, get_or-append_seam}
use Rattle.std.specs.List.{fold, list_all, position, position_or_len}
use Rattle.std.specs.Option.{option_map}
use Rattle.std.proofs.lemmas.Bool.{and_parts}
use Rattle.ghg_units.proofs.Reading.{numerals}
use Rattle.ghg_units.specs.declared.decimal.Decimal.{Decimal}
use Rattle.ghg_units.specs.declared.decimal.TheConstants.Decimal.{PLACES, WHOLE_DIGITS}
use Rattle.ghg_units.specs.Decimal.{cut_at, decimal_in, fraction_in, magnitude_in, number_in, number_of, scaled_in, whole_in, with_digit}
use Rattle.ghg_units.specs.Laws.{DecimalsAreWritten, WritesDecimal, behind_point, minus, signed}
use Rattle.ghg_units.specs.Name.{is_digit}

-- ---- digits

record AreDigits (most : ℕ) (ds : List ℕ) : Type 0 where
  some : 1 ≤ length ds
  few : length ds ≤ most
  digits : list_all is_digit ds ≡ true

digits_read : (most : ℕ) (ds : List ℕ) (n : ℕ) → number_in most ds ≡ Some n → AreDigits most ds × (n ≡ number_of ds)
digits_read most ds n e = by (nat_lt 0 (length ds)) (nat_le (length ds) most) (list_all is_digit ds) refl refl refl e
  where
    by : (p q r : Bool) → nat_lt 0 (length ds) ≡ p → nat_le (length ds) most ≡ q → list_all is_digit ds ≡ r → cond (p && q && r) (Some (number_of ds)) None ≡ Some n → AreDigits most ds × (n ≡ number_of ds)
    by true true true a b c e = (record { some = grind (arith, nat_tests); few = grind (arith, nat_tests); digits = c }, cc)
    by true true false a b c e = absurd (cc)
    by true false r a b c e = absurd (cc)
    by false q r a b c e = absurd (cc)

digits_give : (most : ℕ) (ds : List ℕ) → AreDigits most ds → number_in most ds ≡ Some (number_of ds)
digits_give most ds h =
    let some = h.some in
    let few = h.few in
    let digits = h.digits in
    grind (arith, nat_tests)

shifted : (ds : List ℕ) (n : ℕ) → fold with_digit n ds ≡ n * 10 ^ length ds + number_of ds
shifted [] n = omega arith
shifted (b ∷ ds) n = shifted ds (n * 10 + (b - 48)) ∙ (rw (pow-suc 10 (length ds), shifted ds (0 * 10 + (b - 48))) (omega arith))

places_left : (k : ℕ) → k ≤ PLACES → 10 ^ PLACES ≡ 10 ^ k * 10 ^ (PLACES - k)
places_left k few =
    let whole : PLACES ≡ k + (PLACES - k) = omega arith in
    ap (λ (i : ℕ). 10 ^ i) whole ∙ pow-add 10 k (PLACES - k)

-- digits before a point and behind it, as one number
joined : (w f : List ℕ) → length f ≤ PLACES → number_of w * 10 ^ PLACES + number_of f * 10 ^ (PLACES - length f) ≡ number_of (w ++ f) * 10 ^ (PLACES - length f)
joined w f few =
    let both : number_of (w ++ f) ≡ number_of w * 10 ^ length f + number_of f = fold-append with_digit 0 w f ∙ shifted f (number_of w) in
    rw (both, places_left (length f) few) (omega arith)

-- ---- without a sign

record WritesMagnitude (text : List ℕ) (m : ℕ) : Type 0 where
  whole : List ℕ
  fraction : List ℕ
  text_is : text ≡ whole ++ behind_point fraction
  some_whole : 1 ≤ length whole
  few_whole : length whole ≤ WHOLE_DIGITS
  few_places : length fraction ≤ PLACES
  digits : list_all is_digit (whole ++ fraction) ≡ true
  value : m ≡ number_of (whole ++ fraction) * 10 ^ (PLACES - length fraction)

mapped : {A B P : Type 0} (f : A → B) (o : Option A) (y : B) → option_map f o ≡ Some y → ((x : A) → o ≡ Some x → f x ≡ y → P) → P
mapped f None y e k = absurd (cc)
mapped f (Some x) y e k = k x refl (let same : f x ≡ y = cc in same)

whole_read : (text : List ℕ) (m : ℕ) → whole_in text ≡ Some m → AreDigits WHOLE_DIGITS text × (m ≡ number_of text * 10 ^ PLACES)
unfolding whole_in
whole_read text m e = mapped _ (number_in WHOLE_DIGITS text) m e (λ n is value. let read = digits_read WHOLE_DIGITS text n is in (read.0, sym value ∙ ap (λ (k : ℕ). k * 10 ^ PLACES) read.1))

fraction_read : (text : List ℕ) (m : ℕ) → fraction_in text ≡ Some m → AreDigits PLACES text × (m ≡ number_of text * 10 ^ (PLACES - length text))
unfolding fraction_in
fraction_read text m e = mapped _ (number_in PLACES text) m e (λ n is value. let read = digits_read PLACES text n is in (read.0, sym value ∙ ap (λ (k : ℕ). k * 10 ^ (PLACES - length text)) read.1))

both_digits : (w f : List ℕ) → list_all is_digit w ≡ true → list_all is_digit f ≡ true → list_all is_digit (w ++ f) ≡ true
both_digits w f h k = list_all-append is_digit w f ∙ rw h k

point_and : (f : List ℕ) → 1 ≤ length f → 46 ∷ f ≡ behind_point f
point_and [] some = absurd (omega arith)
point_and (d ∷ ds) some = refl

is_point : (b : ℕ) → (b == 46) ≡ true → b ≡ 46
is_point b e = grind (arith, nat_tests)

-- a text round its first point
cut : (text : List ℕ) (k : ℕ) → position (λ b. b == 46) text ≡ Some k → text ≡ take k text ++ 46 ∷ drop (k + 1) text
cut text k e =
    let found = position-Some (λ b. b == 46) text k 0 e in
    sym (take-append-drop k text) ∙ ap (λ (xs : List ℕ). take k text ++ xs) (drop_more text k 0 found.0 ∙ ap (λ (b : ℕ). b ∷ drop (k + 1) text) (is_point _ found.1))

cut_read : (text : List ℕ) (o : Option ℕ) (m : ℕ) → position (λ b. b == 46) text ≡ o → cut_at text o ≡ Some m → WritesMagnitude text m
cut_read text None m is e =
    let whole = whole_read text m e in
    record {
      whole = text;
      fraction = [];
      text_is = sym (append-nil text);
      some_whole = whole.0.some;
      few_whole = whole.0.few;
      few_places = omega arith;
      digits = rw (append-nil text) whole.0.digits;
      value = rw (append-nil text) whole.1;
    }
cut_read text (Some k) m is e =
    option_and_then_some _ (whole_in (take k text)) m e (λ a first rest.
    option_and_then_some _ (fraction_in (drop (k + 1) text)) m rest (λ b second sum.
    let w = take k text in
    let f = drop (k + 1) text in
    let whole = whole_read w a first in
    let fraction = fraction_read f b second in
    let added : a + b ≡ m = let same : ◌≡◌ {A = Option ℕ} (Some (a + b)) (Some m) = sum in cc in
    record {
      whole = w;
      fraction = f;
      text_is = cut text k is ∙ ap (λ (xs : List ℕ). w ++ xs) (point_and f fraction.0.some);
      some_whole = whole.0.some;
      few_whole = whole.0.few;
      few_places = fraction.0.few;
      digits = both_digits w f whole.0.digits fraction.0.digits;
      value = sym added ∙ rw (whole.1, fraction.1) (joined w f fraction.0.few);
    }))

magnitude_read : (text : List ℕ) (m : ℕ) → magnitude_in text ≡ Some m → WritesMagnitude text m
unfolding magnitude_in
magnitude_read text m e = cut_read text (position (λ b. b == 46) text) m refl e

-- ---- what is written is read

differs : (x : ℕ) → x ≢ 46 → (x == 46) ≡ false
differs x h = grind (arith, nat_tests)

no_point : (w : List ℕ) → list_all is_digit w ≡ true → (k : ℕ) → k < length w → (get_or w k 0 == 46) ≡ false
no_point w digits k below = differs (get_or w k 0) (not_in_digits numerals w 46 digits (λ range. absurd (omega arith)) k below)

point_at : (w f : List ℕ) → list_all is_digit w ≡ true → position_or_len (λ b. b == 46) (w ++ 46 ∷ f) ≡ length w
point_at w f digits =
    position_or_len_is (λ b. b == 46) (w ++ 46 ∷ f) (length w) 0
    (omega (arith, length-append w (46 ∷ f)))
    (λ k below. rw (get_or-append w (46 ∷ f) 0 k below) (no_point w digits k below))
    (λ within. rw (get_or-append_seam w 46 f 0) refl)

point_is : (w f : List ℕ) → list_all is_digit w ≡ true → position (λ b. b == 46) (w ++ 46 ∷ f) ≡ Some (length w)
point_is w f digits =
    let within : nat_lt (length w) (length (w ++ 46 ∷ f)) ≡ true = let longer = length-append w (46 ∷ f) in grind (arith, nat_tests) in
    rw (point_at w f digits, within) refl

none_is : (w : List ℕ) → list_all is_digit w ≡ true → position (λ b. b == 46) w ≡ None
none_is w digits =
    let past : position_or_len (λ b. b == 46) w ≡ length w = position_or_len_is (λ b. b == 46) w (length w) 0 (omega arith) (λ k below. no_point w digits k below) (λ within. absurd (omega arith)) in
    let end : nat_lt (length w) (length w) ≡ false = grind (arith, nat_tests) in
    rw (past, end) refl

magnitude_gives : (w f : List ℕ) → AreDigits WHOLE_DIGITS w → length f ≤ PLACES → list_all is_digit f ≡ true → magnitude_in (w ++ behind_point f) ≡ Some (number_of (w ++ f) * 10 ^ (PLACES - length f))
unfolding magnitude_in whole_in fraction_in
magnitude_gives w [] h few digits = rw (append-nil w, none_is w h.digits, digits_give WHOLE_DIGITS w h) refl
magnitude_gives w (d ∷ ds) h few digits =
    let f : List ℕ = d ∷ ds in
    let behind : drop (length w + 1) (w ++ 46 ∷ f) ≡ f = drop-append-add w (46 ∷ f) 1 in
    let fraction = digits_give PLACES f (record { some = omega arith; few = few; digits = digits }) in
    rw (point_is w f h.digits, take-append_seam w (46 ∷ f), behind, digits_give WHOLE_DIGITS w h, fraction) (ap Some (joined w f few))

-- ---- with a sign

no_minus : (w f : List ℕ) → 1 ≤ length w → list_all is_digit w ≡ true → get_or (w ++ behind_point f) 0 0 ≢ 45
no_minus w f some digits = rw (get_or-append w (behind_point f) 0 0 some) (not_in_digits numerals w 45 digits (λ range. absurd (omega arith)) 0 some)

scaled_gives : (negative : Bool) (w rest : List ℕ) (m : ℕ) → get_or (w ++ rest) 0 0 ≢ 45 → magnitude_in (w ++ rest) ≡ Some m → scaled_in (minus negative ++ w ++ rest) ≡ Some (signed negative m)
unfolding scaled_in
scaled_gives true w rest m plain is = rw is refl
scaled_gives false w rest m plain is =
    let no_sign : (get_or (w ++ rest) 0 0 == 45) ≡ false = grind (arith, nat_tests) in
    rw (no_sign, is) refl

pub written_reads : (text : List ℕ) (d : Decimal) → WritesDecimal text d → decimal_in text ≡ Some d
written_reads text d h =
    let all : list_all is_digit h.whole && list_all is_digit h.fraction ≡ true = sym (list_all-append is_digit h.whole h.fraction) ∙ h.digits in
    let whole_digits = (and_parts _ _ all).0 in
    let magnitude = magnitude_gives h.whole h.fraction (record { some = h.some_whole; few = h.few_whole; digits = whole_digits }) h.few_places (and_parts _ _ all).1 in
    rw (h.text_is, scaled_gives h.negative h.whole (behind_point h.fraction) _ (no_minus h.whole h.fraction h.some_whole whole_digits) magnitude) (ap (λ (z : ℤ). Some (record { scaled = z })) (sym h.value))

minus_front : (text : List ℕ) → (get_or text 0 0 == 45) ≡ true → text ≡ 45 ∷ drop 1 text
minus_front [] e = absurd (cc)
minus_front (b ∷ bs) e = ap (λ (c : ℕ). c ∷ bs) (let same : b ≡ 45 = grind (arith, nat_tests) in same)

scaled_read : (text : List ℕ) (z : ℤ) → scaled_in text ≡ Some z → WritesDecimal text (record { scaled = z })
unfolding scaled_in
scaled_read text z e = by (get_or text 0 0 == 45) refl e
  where
    by : (b : Bool) → (get_or text 0 0 == 45) ≡ b → cond b (option_map (λ n. neg_ℤ (pos n)) (magnitude_in (drop 1 text))) (option_map pos (magnitude_in text)) ≡ Some z → WritesDecimal text (record { scaled = z })
    by true front e = mapped _ (magnitude_in (drop 1 text)) z e (λ m is value.
        let h = magnitude_read (drop 1 text) m is in
        record {
          negative = true;
          whole = h.whole;
          fraction = h.fraction;
          text_is = minus_front text front ∙ ap (λ (xs : List ℕ). 45 ∷ xs) h.text_is;
          some_whole = h.some_whole;
          few_whole = h.few_whole;
          few_places = h.few_places;
          digits = h.digits;
          value = sym value ∙ ap (λ (n : ℕ). neg_ℤ (pos n)) h.value;
        })
    by false front e = mapped _ (magnitude_in text) z e (λ m is value.
        let h = magnitude_read text m is in
        record {
          negative = false;
          whole = h.whole;
          fraction = h.fraction;
          text_is = h.text_is;
          some_whole = h.some_whole;
          few_whole = h.few_whole;
          few_places = h.few_places;
          digits = h.digits;
          value = sym value ∙ ap pos h.value;
        })

pub decimals_written : DecimalsAreWritten
decimals_written text d = (read, written_reads text d)
  where
    read : decimal_in text ≡ Some d → WritesDecimal text d
    read e = mapped _ (scaled_in text) d e (λ z is value. rw (← value) (scaled_read text z is))
