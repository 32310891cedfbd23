-- The bounds of a root over a size.
use Rattle.std.proofs.Common.{◌≡◌, ◌≢◌, ℕ, zero, suc, ◌*◌, ◌/◌, ◌<◌, ◌≤◌, ℤ, pos, negsuc, unsigned_abs, refl, ap, arith, mul-le-mul, mul-le-mul_right, div-mul-le_self}
use Rattle.std.proofs.lemmas.Grind.{div_ceil_times}
use Rattle.std.proofs.Math.Nat.{lt-div-mul-add, zero-div, zero-mod}
use Rattle.std.specs.Int.{div_ceil}
use Rattle.ghg_interval.specs.Rounding.{floor_by, ceil_by}
use Rattle.ghg_uncertainty.specs.Totals.{square}
use native.Mathlib.Decide.{dec_lt}
use Prim.{yes, no}

pub floor_natural : (size n : ℕ) → pos (n / size) ≡ floor_by size (pos n)
floor_natural size n = refl

-- the quotients of n + 1, rounded up, and of n, rounded down, are next to each other
above_floor : (size n : ℕ) → 0 < size → div_ceil (suc n) size ≡ suc (n / size)
above_floor size n h =
    let ends = div_ceil_times (suc n) size h in
    let most : div_ceil (suc n) size ≤ suc (n / size) = elim (dec_lt (suc (n / size)) (div_ceil (suc n) size)) [
      | yes l ↦
          let more : suc (suc (n / size)) * size ≤ div_ceil (suc n) size * size = mul-le-mul_right size l in
          absurd (omega (arith, ends.1, more, lt-div-mul-add {a = n} {b = size} h))
      | no not ↦ omega (arith, not)
    ] in
    let least : suc (n / size) ≤ div_ceil (suc n) size = elim (dec_lt (n / size) (div_ceil (suc n) size)) [
      | yes l ↦ l
      | no not ↦
          let less : div_ceil (suc n) size * size ≤ n / size * size = mul-le-mul_right size (omega (arith, not)) in
          absurd (omega (arith, ends.0, less, div-mul-le_self n size))
    ] in
    omega (arith, most, least)

pub ceil_natural : (size n : ℕ) → 0 < size → pos (div_ceil n size) ≡ ceil_by size (pos n)
ceil_natural size zero h = rw (zero-div size, zero-mod size) refl
ceil_natural size (suc n) h = ap pos (above_floor size n h)

pub low_holds : (size root n : ℕ) → square root ≤ n → square ((root / size) * size) ≤ n
low_holds size root n h =
    let less : (root / size) * size ≤ root = div-mul-le_self root size in
    omega (arith, h, mul-le-mul less less)

pub high_holds : (size root n : ℕ) → 0 < size → n ≤ square root → n ≤ square (div_ceil root size * size)
high_holds size root n positive h =
    let more : root ≤ div_ceil root size * size = (div_ceil_times root size positive).0 in
    omega (arith, h, mul-le-mul more more)

-- ---- a number that is not zero

pub some_magnitude : (z : ℤ) → z ≢ pos 0 → 0 < unsigned_abs z
some_magnitude (pos zero) h = absurd (h refl)
some_magnitude (pos (suc n)) h = omega arith
some_magnitude (negsuc n) h = omega arith
