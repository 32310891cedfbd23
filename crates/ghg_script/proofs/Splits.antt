-- Bytes that are cut at the first of a byte, and lines.
use Rattle.std.proofs.Common.{◌≡◌, ℕ, suc, ◌+◌, ◌≤◌, ◌<◌, Bool, true, false, not, ◌==◌, List, [], ◌∷◌, ◌++◌, length, take, drop, append_assoc, append-nil, add-zero, length-append, refl, sym, ap, ◌∙◌, arith, Option, None, Some, nat_eq, nat_le, nat_lt, eqb-true, eq-eqb}
use Rattle.std.specs.List.{position_or_len}
use Rattle.std.specs.Option.{option_map_or}
use Rattle.std.proofs.lemmas.Bool.{and_parts, not-true}
use Rattle.std.proofs.lemmas.List.{take_at, drop_at}
use Rattle.ghg_script.specs.Commands.{lacks, line_at, line_of, longest_line, split_at}

-- how many bytes stand before it, or in all
abbrev pub first : ℕ → List ℕ → ℕ
first t xs = position_or_len (λ b. b == t) xs

pub first_behind : (t : ℕ) (xs ys : List ℕ) → lacks t xs ≡ true → first t (xs ++ ys) ≡ length xs + first t ys
first_behind t [] ys h = omega arith
first_behind t (x ∷ xs) ys h =
    let both = and_parts (not (nat_eq x t)) (lacks t xs) h in
    let other : nat_eq x t ≡ false = not-true (nat_eq x t) both.0 in
    let later = first_behind t xs ys both.1 in
    rw other (omega (arith, later))

-- ---- a split

pub split_of : (t : ℕ) (xs ys : List ℕ) → lacks t xs ≡ true → split_at t (xs ++ t ∷ ys) ≡ Some (xs, ys)
split_of t xs ys h =
    let all : List ℕ = xs ++ t ∷ ys in
    let here : first t (t ∷ ys) ≡ 0 = rw (eq-eqb t t refl) refl in
    let at : first t all ≡ length xs = first_behind t xs (t ∷ ys) h ∙ ap (λ (n : ℕ). length xs + n) here ∙ add-zero (length xs) in
    let inside : nat_lt (length xs) (length all) ≡ true = grind (arith, length-append xs (t ∷ ys)) in
    let behind = rw append_assoc at (drop_at (xs ++ t ∷ []) ys (length xs + 1) (length-append xs (t ∷ []))) in
    rw (at, inside, take_at xs (t ∷ ys) (length xs) refl, behind) refl

pub record IsSplit (t : ℕ) (bytes xs ys : List ℕ) : Type 0 where
  pub whole : bytes ≡ xs ++ t ∷ ys
  pub plain : lacks t xs ≡ true

first_is : (t x : ℕ) (xs : List ℕ) (same : Bool) → nat_eq x t ≡ same → first t (x ∷ xs) < length (x ∷ xs)
    → (first t xs < length xs → IsSplit t xs (take (first t xs) xs) (drop (first t xs + 1) xs))
    → IsSplit t (x ∷ xs) (take (first t (x ∷ xs)) (x ∷ xs)) (drop (first t (x ∷ xs) + 1) (x ∷ xs))
first_is t x xs true e h go = record { whole = rw e (ap (λ (b : ℕ). b ∷ xs) (eqb-true x t e)); plain = rw e refl }
first_is t x xs false e h go =
    let inside = rw e at h in
    let later = go (omega (arith, inside)) in
    let next : 1 + first t xs ≡ suc (first t xs) = omega arith in
    let after : suc (first t xs) + 1 ≡ suc (first t xs + 1) = omega arith in
    record { whole = rw (e, next, after) (ap (λ (l : List ℕ). x ∷ l) later.whole); plain = rw (e, next, e) later.plain }

at_first : (t : ℕ) (xs : List ℕ) → first t xs < length xs → IsSplit t xs (take (first t xs) xs) (drop (first t xs + 1) xs)
at_first t [] h = absurd (omega (arith, h))
at_first t (x ∷ xs) h = first_is t x xs (nat_eq x t) refl h (at_first t xs)

some_parts : (p q : List ℕ × List ℕ) → Some p ≡ Some q → (p.0 ≡ q.0) × (p.1 ≡ q.1)
some_parts p q e = (ap (λ o. option_map_or (λ p. p.0) o []) e, ap (λ o. option_map_or (λ p. p.1) o []) e)

pub split_is : (t : ℕ) (bytes xs ys : List ℕ) → split_at t bytes ≡ Some (xs, ys) → IsSplit t bytes xs ys
split_is t bytes xs ys h = by (nat_lt (first t bytes) (length bytes)) refl
  where
    by : (within : Bool) → nat_lt (first t bytes) (length bytes) ≡ within → IsSplit t bytes xs ys
    by true e =
        let inside : first t bytes < length bytes = grind (arith, e) in
        let found = rw e at h in
        let parts = some_parts (take (first t bytes) bytes, drop (first t bytes + 1) bytes) (xs, ys) found in
        let split = at_first t bytes inside in
        record {
          whole = split.whole ∙ ap (λ (l : List ℕ). l ++ t ∷ drop (first t bytes + 1) bytes) parts.0 ∙ ap (λ (l : List ℕ). xs ++ t ∷ l) parts.1;
          plain = ap (lacks t) (sym parts.0) ∙ split.plain;
        }
    by false e = let none = rw e at h in absurd cc

pub split_none : (t : ℕ) (xs : List ℕ) → lacks t xs ≡ true → split_at t xs ≡ None
split_none t xs h =
    let all : first t xs ≡ length xs = ap (first t) (sym (append-nil xs)) ∙ first_behind t xs [] h ∙ add-zero (length xs) in
    let outside : nat_lt (first t xs) (length xs) ≡ false = grind (arith, all) in
    rw outside refl

-- ---- a line

-- what follows its line feed
pub line_ends : (line rest : List ℕ) → length line ≤ longest_line → lacks 10 line ≡ true → line_at (line_of line ++ rest) ≡ Some (line, rest)
unfolding line_at
line_ends line rest short h =
    let fits : nat_le (length line) longest_line ≡ true = grind arith in
    rw (append_assoc, split_of 10 line rest h, fits) refl

pub line_is : (bytes line rest : List ℕ) → line_at bytes ≡ Some (line, rest) → (IsSplit 10 bytes line rest) × (length line ≤ longest_line)
unfolding line_at
line_is bytes line rest h = by (split_at 10 bytes) refl
  where
    fitting : (xs ys : List ℕ) → split_at 10 bytes ≡ Some (xs, ys) → (fits : Bool) → nat_le (length xs) longest_line ≡ fits
        → (IsSplit 10 bytes line rest) × (length line ≤ longest_line)
    fitting xs ys e true f =
        let parts = some_parts (xs, ys) (line, rest) (rw (e, f) at h) in
        let split = split_is 10 bytes xs ys e in
        let few : length xs ≤ longest_line = grind (arith, f) in (
          record { whole = split.whole ∙ ap (λ (l : List ℕ). l ++ 10 ∷ ys) parts.0 ∙ ap (λ (l : List ℕ). line ++ 10 ∷ l) parts.1; plain = ap (lacks 10) (sym parts.0) ∙ split.plain },
          omega (arith, few, ap length parts.0),
        )
    fitting xs ys e false f = let none = rw (e, f) at h in absurd cc

    by : (split : Option (List ℕ × List ℕ)) → split_at 10 bytes ≡ split → (IsSplit 10 bytes line rest) × (length line ≤ longest_line)
    by (Some split) e = fitting split.0 split.1 e (nat_le (length split.0) longest_line) refl
    by None e = let none = rw e at h in absurd cc

-- the input ended within the line
pub line_cut : (line : List ℕ) → lacks 10 line ≡ true → line_at line ≡ None
unfolding line_at
line_cut line h = rw (split_none 10 line h) refl

-- the line has a byte too many
pub line_too_long : (line : List ℕ) → longest_line < length line → lacks 10 line ≡ true → (rest : List ℕ) → line_at (line ++ rest) ≡ None
line_too_long line far h rest = by (line_at (line ++ rest)) refl
  where
    by : (found : Option (List ℕ × List ℕ)) → line_at (line ++ rest) ≡ found → line_at (line ++ rest) ≡ None
    by None e = e
    by (Some parts) e =
        let is = line_is (line ++ rest) parts.0 parts.1 e in
        let same : length line + first 10 rest ≡ length parts.0 =
        sym (first_behind 10 line rest h) ∙ ap (first 10) is.0.whole ∙ first_behind 10 parts.0 (10 ∷ parts.1) is.0.plain ∙ add-zero (length parts.0) in
        absurd (omega (arith, far, is.1, same))
