-- Bits of words of 128 bits, after a change and in a search.
use Rattle.std.proofs.Common.{◌≡◌, ◌⊎◌, inl, inr, ℕ, zero, suc, ◌+◌, ◌-◌, ◌*◌, ◌/◌, ◌%◌, ◌^◌, ◌≤◌, ◌<◌, min, max, nat_lt, Bool, true, false, cond, not, ◌&&◌, ◌||◌, ◌==◌, refl, sym, ap, ◌∙◌, bit_and, bit_or, arith, eqb-true}
use Rattle.std.specs.Int.{bit_at, bit_not, leading_zeros, trailing_zeros, w128}
use Rattle.std.specs.Int.Count.{count_leading_zeros}
use Rattle.std.proofs.Math.Bool.{and-true}
use Rattle.std.proofs.Math.Nat.{div-div-eq-div-mul, div-eq_of_lt-le, div-le_self, mod-eq_of_lt, one-mul}
use Rattle.std.proofs.Math.Pow.{pow-lt}
use Rattle.std.proofs.lemmas.Bool.{and_parts, cases_lt, eqb-false, le-ltb, lt-ltb, ltb-true}
use Rattle.std.proofs.lemmas.Nat.{leading_top, pow-add}
use Rattle.std.proofs.lemmas.Nat.Bits.{bit_at-lt, bit_at-zero, bit_at_above, bit_at_and, bit_at_or, bit_at_not, bit_at_ones, bit_at_ones_above, bit_at_set_same, bit_at_set_other, bit_at_clear_same, bit_at_clear_other, bit_at-trailing_zeros}
use Rattle.ghg_data.specs.YearSet.{has_bit}

larger_bit : (a b : ℕ) → a < 2 → b < 2 → (max a b == 1) ≡ (a == 1) || (b == 1)
larger_bit zero zero p q = refl
larger_bit zero (suc zero) p q = refl
larger_bit (suc zero) zero p q = refl
larger_bit (suc zero) (suc zero) p q = refl
larger_bit (suc (suc a)) b p q = absurd (omega arith)
larger_bit a (suc (suc b)) p q = absurd (omega arith)

smaller_bit : (a b : ℕ) → a < 2 → b < 2 → (min a b == 1) ≡ (a == 1) && (b == 1)
smaller_bit zero zero p q = refl
smaller_bit zero (suc zero) p q = refl
smaller_bit (suc zero) zero p q = refl
smaller_bit (suc zero) (suc zero) p q = refl
smaller_bit (suc (suc a)) b p q = absurd (omega arith)
smaller_bit a (suc (suc b)) p q = absurd (omega arith)

other_bit : (a : ℕ) → a < 2 → (1 - a == 1) ≡ not (a == 1)
other_bit zero p = refl
other_bit (suc zero) p = refl
other_bit (suc (suc a)) p = absurd (omega arith)

no_bit : (n i : ℕ) → bit_at n i ≡ 0 → has_bit n i ≡ false
no_bit n i e = ap (λ b. b == 1) e

bit_or_bit : (a b i : ℕ) → has_bit (bit_or a b) i ≡ has_bit a i || has_bit b i
bit_or_bit a b i = ap (λ n. n == 1) (bit_at_or a b i) ∙ larger_bit _ _ (bit_at-lt a i) (bit_at-lt b i)

bit_and_bit : (a b i : ℕ) → has_bit (bit_and a b) i ≡ has_bit a i && has_bit b i
bit_and_bit a b i = ap (λ n. n == 1) (bit_at_and a b i) ∙ smaller_bit _ _ (bit_at-lt a i) (bit_at-lt b i)

-- bits that are cleared where others are set
cleared : (n t i : ℕ) → n < 2 ^ 128 → t < 2 ^ 128 → has_bit (bit_and n (bit_not w128 t)) i ≡ has_bit n i && not (has_bit t i)
cleared n t i p q = bit_and_bit n (bit_not w128 t) i ∙ by (cases_lt i 128)
  where
    by : (i < 128) ⊎ (128 ≤ i) → has_bit n i && has_bit (bit_not w128 t) i ≡ has_bit n i && not (has_bit t i)
    by (inl low) = ap (λ b. has_bit n i && b) (ap (λ n. n == 1) (bit_at_not w128 t i q low) ∙ other_bit _ (bit_at-lt t i))
    by (inr high) =
        let none : has_bit n i ≡ false = no_bit n i (bit_at_above n 128 i p high) in
        ap (λ b. b && has_bit (bit_not w128 t) i) none ∙ sym (ap (λ b. b && not (has_bit t i)) none)

pub changed_bit : (n put taken i : ℕ) → n < 2 ^ 128 → taken < 2 ^ 128 → has_bit (bit_or put (bit_and n (bit_not w128 taken))) i ≡ has_bit put i || (has_bit n i && not (has_bit taken i))
changed_bit n put taken i p q = bit_or_bit put _ i ∙ ap (λ b. has_bit put i || b) (cleared n taken i p q)

-- ---- one bit

pub set_bit : (n k i : ℕ) → k < 128 → has_bit (bit_or n (1 * 2 ^ k % 2 ^ 128)) i ≡ cond (i == k) true (has_bit n i)
set_bit n k i within = by (i == k) refl
  where
    by : (b : Bool) → (i == k) ≡ b → has_bit (bit_or n (1 * 2 ^ k % 2 ^ 128)) i ≡ cond b true (has_bit n i)
    by true e = ap (has_bit _) (eqb-true _ _ e) ∙ ap (λ n. n == 1) (bit_at_set_same w128 n k within)
    by false e = ap (λ n. n == 1) (bit_at_set_other w128 n k within i (eqb-false _ _ e))

pub clear_bit : (n k i : ℕ) → k < 128 → n < 2 ^ 128 → has_bit (bit_and n (bit_not w128 (1 * 2 ^ k % 2 ^ 128))) i ≡ cond (i == k) false (has_bit n i)
clear_bit n k i within p = by (i == k) refl
  where
    new : ℕ
    new = bit_and n (bit_not w128 (1 * 2 ^ k % 2 ^ 128))

    other : (i ≡ k → ⊥) → (i < 128) ⊎ (128 ≤ i) → has_bit new i ≡ has_bit n i
    other apart (inl low) = ap (λ n. n == 1) (bit_at_clear_other w128 n k within i low apart)
    other apart (inr high) =
        let none : has_bit n i ≡ false = no_bit n i (bit_at_above n 128 i p high) in
        bit_and_bit n _ i ∙ ap (λ b. b && has_bit (bit_not w128 (1 * 2 ^ k % 2 ^ 128)) i) none ∙ sym none

    by : (b : Bool) → (i == k) ≡ b → has_bit new i ≡ cond b false (has_bit n i)
    by true e = ap (has_bit new) (eqb-true _ _ e) ∙ ap (λ n. n == 1) (bit_at_clear_same w128 n k within)
    by false e = other (eqb-false _ _ e) (cases_lt i 128)

-- ---- a search from a place on

-- a bit behind a shift
shifted : (n from i : ℕ) → from ≤ i → bit_at n i ≡ bit_at (n / 2 ^ from) (i - from)
shifted n from i l =
    let e : i ≡ from + (i - from) = omega arith in
    ap (bit_at n) e ∙ ap (λ d. n / d % 2) (pow-add 2 from (i - from)) ∙ ap (λ q. q % 2) (sym (div-div-eq-div-mul n (2 ^ from) (2 ^ (i - from))))

pub none_from : (n from : ℕ) → n / 2 ^ from ≡ 0 → (i : ℕ) → from ≤ i → has_bit n i ≡ false
none_from n from e i l = no_bit n i (shifted n from i l ∙ ap (λ r. bit_at r (i - from)) e ∙ bit_at-zero (i - from))

pub none_above : (n from : ℕ) → n < 2 ^ 128 → 128 ≤ from → (i : ℕ) → from ≤ i → has_bit n i ≡ false
none_above n from p h i l = no_bit n i (bit_at_above n 128 i p (omega arith))

pub first_from : (n from : ℕ) → n < 2 ^ 128 → (n / 2 ^ from ≡ 0 → ⊥)
    → (from ≤ from + trailing_zeros w128 (n / 2 ^ from)) × (from + trailing_zeros w128 (n / 2 ^ from) < 128) × (has_bit n (from + trailing_zeros w128 (n / 2 ^ from)) ≡ true)
    × ((i : ℕ) → from ≤ i → i < from + trailing_zeros w128 (n / 2 ^ from) → has_bit n i ≡ false)
first_from n from p some = (omega arith, within (cases_lt (from + zeros) 128), ap (λ b. b == 1) here, λ i low high. no_bit n i (shifted n from i low ∙ found.2 (i - from) (omega arith)))
  where
    rest : ℕ
    rest = n / 2 ^ from

    zeros : ℕ
    zeros = trailing_zeros w128 rest

    found : (zeros < 128) × (bit_at rest zeros ≡ 1) × ((i : ℕ) → i < zeros → bit_at rest i ≡ 0)
    found = bit_at-trailing_zeros w128 rest (omega (arith, some)) (let l = div-le_self n (2 ^ from) in omega arith)

    here : bit_at n (from + zeros) ≡ 1
    here = let e : from + zeros - from ≡ zeros = omega arith in shifted n from (from + zeros) (omega arith) ∙ ap (bit_at rest) e ∙ found.1

    apart : (b : ℕ) → b ≡ 1 → b ≡ 0 → ⊥
    apart b e f = absurd (omega (arith, e, f))

    within : (from + zeros < 128) ⊎ (128 ≤ from + zeros) → from + zeros < 128
    within (inl low) = low
    within (inr high) = absurd (apart _ here (bit_at_above n 128 (from + zeros) p high))

-- ---- a search from a place down

-- what of a word stands below a place
pub whole_below : (n below i : ℕ) → n < 2 ^ 128 → 128 ≤ below → has_bit n i ≡ has_bit n i && nat_lt i below
whole_below n below i p h = by (cases_lt i below)
  where
    by : (i < below) ⊎ (below ≤ i) → has_bit n i ≡ has_bit n i && nat_lt i below
    by (inl low) = sym (and-true (has_bit n i)) ∙ ap (λ b. has_bit n i && b) (sym (lt-ltb i below low))
    by (inr high) =
        let none : has_bit n i ≡ false = no_bit n i (bit_at_above n 128 i p (omega (arith, h, high))) in
        none ∙ sym (ap (λ b. b && nat_lt i below) none)

mask_bit : (below i : ℕ) → has_bit (2 ^ below - 1) i ≡ nat_lt i below
mask_bit below i = by (cases_lt i below)
  where
    by : (i < below) ⊎ (below ≤ i) → has_bit (2 ^ below - 1) i ≡ nat_lt i below
    by (inl low) = ap (λ n. n == 1) (bit_at_ones below i low) ∙ sym (lt-ltb i below low)
    by (inr high) = ap (λ n. n == 1) (bit_at_ones_above below i high) ∙ sym (le-ltb i below high)

pub masked_below : (n below i : ℕ) → below < 128 → has_bit (bit_and n (1 * 2 ^ below % 2 ^ 128 - 1)) i ≡ has_bit n i && nat_lt i below
masked_below n below i within =
    let e : 1 * 2 ^ below % 2 ^ 128 ≡ 2 ^ below = ap (λ a. a % 2 ^ 128) (one-mul (2 ^ below)) ∙ mod-eq_of_lt (pow-lt within) in
    ap (λ a. has_bit (bit_and n (a - 1)) i) e ∙ bit_and_bit n (2 ^ below - 1) i ∙ ap (λ b. has_bit n i && b) (mask_bit below i)

-- the highest bit of what stands below a place
pub last_below : (n rest below : ℕ) → rest < 2 ^ 128 → ((i : ℕ) → has_bit rest i ≡ has_bit n i && nat_lt i below) → (rest ≡ 0 → ⊥)
    → (127 - leading_zeros w128 rest < below) × (127 - leading_zeros w128 rest < 128) × (has_bit n (127 - leading_zeros w128 rest) ≡ true)
    × ((i : ℕ) → 127 - leading_zeros w128 rest < i → i < below → has_bit n i ≡ false)
last_below n rest below p is some = (ltb-true _ _ here.1, omega arith, here.0, above)
  where
    top : (j : ℕ) × (count_leading_zeros 128 rest + suc j ≡ 128) × (2 ^ j ≤ rest) × (rest < 2 ^ suc j)
    top = leading_top 128 rest (omega (arith, some)) p

    place : ℕ
    place = 127 - leading_zeros w128 rest

    at_top : top.0 ≡ place
    at_top = omega (arith, top.1)

    set_at_top : has_bit rest top.0 ≡ true
    set_at_top =
        let one : rest / 2 ^ top.0 ≡ 1 = div-eq_of_lt-le (2 ^ top.0) (omega (arith, top.2)) (omega (arith, top.3)) in
        ap (λ q. q % 2 == 1) one

    here : (has_bit n place ≡ true) × (nat_lt place below ≡ true)
    here = and_parts _ _ (sym (is place) ∙ ap (has_bit rest) (sym at_top) ∙ set_at_top)

    above : (i : ℕ) → place < i → i < below → has_bit n i ≡ false
    above i high low = sym (and-true (has_bit n i)) ∙ ap (λ b. has_bit n i && b) (sym (lt-ltb i below low)) ∙ sym (is i) ∙ no_bit rest i (bit_at_above rest (suc top.0) i top.3 (omega (arith, at_top, high)))
