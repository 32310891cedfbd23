-- The bracket that the definition finds is the one bracket.
use Rattle.std.proofs.Common.{◌≡◌, ℕ, zero, suc, ◌+◌, ◌<◌, ◌≤◌, Bool, true, false, if◌then◌else◌, inl, inr, eq-or-lt_of_le, refl, subst, arith, ℤ, pos, ◌+ℤ◌, ◌-ℤ◌, ◌≤ℤ◌, ◌<ℤ◌, int_le, int_lt}
use Rattle.std.proofs.lemmas.Int.{ints}
use Rattle.std.proofs.lemmas.Bool.{both_ways}
use Rattle.ghg_interval.specs.Bounds.{Bounds, unit_scale}
use Rattle.ghg_roots.specs.Decay.{IsDecayBracket, bracket_of, decay_bounds, is_below, is_within, last_passing, most_parts, parts_down}
use Rattle.ghg_roots.specs.Laws.{IsExactDecay}
use Rattle.ghg_roots.proofs.Ends.{bracket_holds, bracket_ordered, bracket_width, down_at_unit, down_at_zero, one_bracket, up_at_unit, up_at_zero}

-- a number up to n passes a test, and the next does not
record IsLast (passes : ℕ → Bool) (n last : ℕ) : Type 0 where
  pub passing : passes last ≡ true
  pub next : last < n → passes (last + 1) ≡ false
  pub up_to : last ≤ n

is_last : (passes : ℕ → Bool) → passes zero ≡ true → (n : ℕ) → IsLast passes n (last_passing passes n)
unfolding last_passing
is_last passes first zero = record { passing = first; next = λ less. absurd (omega (arith, less)); up_to = omega arith }
is_last passes first (suc n) = by (passes (suc n)) refl (is_last passes first n)
  where
    next_fails : IsLast passes n (last_passing passes n) → passes (suc n) ≡ false → last_passing passes n < suc n → passes (last_passing passes n + 1) ≡ false
    next_fails rest e less = elim (eq-or-lt_of_le rest.up_to) [
      | inl is ↦ let next : suc n ≡ last_passing passes n + 1 = omega (arith, is) in subst (λ k. passes k ≡ false) next e
      | inr more ↦ rest.next more
    ]

    by : (b : Bool) → passes (suc n) ≡ b → IsLast passes n (last_passing passes n) → IsLast passes (suc n) (if b then suc n else last_passing passes n)
    by true e rest = record { passing = e; next = λ less. absurd (omega (arith, less)); up_to = omega arith }
    by false e rest = record { passing = rest.passing; next = λ less. next_fails rest e less; up_to = let up_to = rest.up_to in omega (arith, up_to) }

le_true : (x y : ℤ) → x ≤ℤ y → int_le x y ≡ true
le_true x y h = grind (arith, h)

lt_true : (x y : ℤ) → x <ℤ y → int_lt x y ≡ true
lt_true x y h = grind (arith, h)

true_le : (x y : ℤ) → int_le x y ≡ true → x ≤ℤ y
true_le x y e = grind (arith, e)

true_lt : (x y : ℤ) → int_lt x y ≡ true → x <ℤ y
true_lt x y e = grind (arith, e)

false_lt : (x y : ℤ) → int_le x y ≡ false → y <ℤ x
false_lt x y e = grind (arith, e)

false_le : (x y : ℤ) → int_lt x y ≡ false → y ≤ℤ x
false_le x y e = grind (arith, e)

-- where zero passes and the greatest number does not, the last that passes is below the greatest
below : (passes : ℕ → Bool) (n last : ℕ) → IsLast passes n last → passes n ≡ false → last < n
below passes n last is e = elim (eq-or-lt_of_le is.up_to) [
  | inl same ↦ absurd (both_ways (passes n) e (subst (λ k. passes k ≡ true) same is.passing))
  | inr less ↦ less
]

fails_le : (x y : ℤ) → y <ℤ x → int_le x y ≡ false
fails_le x y h = grind (arith, h)

fails_lt : (x y : ℤ) → y ≤ℤ x → int_lt x y ≡ false
fails_lt x y h = grind (arith, h)

before_next : (n : ℕ) → pos n ≡ pos (n + 1) -ℤ pos 1
before_next n = omega (arith, ints)

module _ (parts exponent : ℕ) (some_parts : 2 ≤ parts) (positive : 1 ≤ exponent) where
  within : ℕ → Bool
  within = is_within parts exponent

  low : ℕ
  low = last_passing within unit_scale

  low_last : IsLast within unit_scale low
  unfolding within low
  low_last = is_last (is_within parts exponent) (le_true _ _ (up_at_zero parts exponent positive)) unit_scale

  low_next : within (low + 1) ≡ false
  unfolding within
  low_next = low_last.next (below within unit_scale low low_last (fails_le _ _ (up_at_unit parts exponent some_parts)))

  under : ℕ → Bool
  under = is_below parts exponent

  high : ℕ
  high = last_passing under unit_scale

  high_last : IsLast under unit_scale high
  unfolding under high
  high_last = is_last (is_below parts exponent) (lt_true _ _ (down_at_zero parts exponent positive)) unit_scale

  high_next : under (high + 1) ≡ false
  unfolding under
  high_next = high_last.next (below under unit_scale high high_last (fails_lt _ _ (down_at_unit parts exponent some_parts)))

  pub bracket_found : IsDecayBracket parts exponent (bracket_of parts exponent)
  unfolding bracket_of within low under high
  bracket_found = record {
    lo_natural = omega (arith, ints);
    hi_natural = omega (arith, ints);
    lo_within = true_le _ _ low_last.passing;
    lo_last = false_lt _ _ low_next;
    hi_first = subst (λ z. parts_down parts exponent z <ℤ pos unit_scale) (before_next high) (true_lt _ _ high_last.passing);
    hi_reaches = false_le _ _ high_next;
  }

  pub found_ordered : (bracket_of parts exponent).lo ≤ℤ (bracket_of parts exponent).hi
  found_ordered = bracket_ordered parts exponent positive (bracket_of parts exponent) bracket_found

  pub found_small : ((bracket_of parts exponent).lo +ℤ pos 1) ≤ℤ pos unit_scale
  unfolding bracket_of within low
  found_small =
      let less = below (is_within parts exponent) unit_scale low low_last (fails_le _ _ (up_at_unit parts exponent some_parts)) in
      omega (arith, ints, less)

  -- and no other is
  pub bracket_is : (b : Bounds) → IsDecayBracket parts exponent b → b ≡ bracket_of parts exponent
  bracket_is b is = one_bracket parts exponent (bracket_of parts exponent) b positive bracket_found is

pub decay_ordered : (tenths : ℕ) → 10 ≤ tenths → (decay_bounds tenths).lo ≤ℤ (decay_bounds tenths).hi
decay_ordered tenths ten = found_ordered most_parts tenths (omega arith) (omega (arith, ten))

pub decay_exact : (tenths : ℕ) → 1 ≤ tenths → IsExactDecay tenths
decay_exact tenths positive = record {
  bracket = found;
  only = bracket_is most_parts tenths some positive;
  holds = bracket_holds most_parts tenths positive _ found;
  width = bracket_width most_parts tenths positive _ found (found_small most_parts tenths some positive);
}
  where
    some : 2 ≤ most_parts
    some = omega arith

    found : IsDecayBracket most_parts tenths (decay_bounds tenths)
    found = bracket_found most_parts tenths some positive
