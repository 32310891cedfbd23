-- The bounds of a decay factor.
use Rattle.std.proofs.Common.{◌≡◌, ℕ, zero, suc, ◌+◌, ◌≤◌, refl, ap₂, sym, ◌∙◌, arith, ℤ, pos, negsuc, ◌+ℤ◌, ◌-ℤ◌, ◌≤ℤ◌, ◌<ℤ◌}
use Rattle.std.proofs.lemmas.Int.{ints}
use Rattle.ghg_interval.specs.Bounds.{Bounds, between, unit_scale}
use Rattle.ghg_roots.specs.Decay.{IsDecayBracket, HoldsDecay, parts_up, parts_down}
use Rattle.ghg_roots.proofs.Powers.{Encloses, up_zero, up_whole, down_zero, down_whole, low_holds, high_holds, ordered, width, least_low, least_high}
use Rattle.ghg_roots.proofs.Rounded.{parts_up_natural, parts_down_natural}

-- ---- both ends of the search

pub up_at_zero : (parts exponent : ℕ) → 1 ≤ exponent → parts_up parts exponent (pos 0) ≤ℤ pos unit_scale
up_at_zero parts exponent h = rw (parts_up_natural parts exponent 0, up_zero exponent h) (omega (arith, ints))

pub up_at_unit : (parts exponent : ℕ) → 2 ≤ parts → pos unit_scale <ℤ parts_up parts exponent (pos unit_scale)
up_at_unit parts exponent h = rw (parts_up_natural parts exponent unit_scale, up_whole exponent) (omega (arith, ints, h))

pub down_at_zero : (parts exponent : ℕ) → 1 ≤ exponent → parts_down parts exponent (pos 0) <ℤ pos unit_scale
down_at_zero parts exponent h = rw (parts_down_natural parts exponent 0, down_zero exponent h) (omega (arith, ints))

pub down_at_unit : (parts exponent : ℕ) → 2 ≤ parts → pos unit_scale ≤ℤ parts_down parts exponent (pos unit_scale)
down_at_unit parts exponent h = rw (parts_down_natural parts exponent unit_scale, down_whole exponent) (omega (arith, ints, h))

-- ---- a bracket over whole numbers is one over natural numbers

before_next : (n : ℕ) → pos (suc n) -ℤ pos 1 ≡ pos n
before_next n = omega (arith, ints)

enclosed : (parts exponent low high : ℕ) → IsDecayBracket parts exponent (between (pos low) (pos (suc high))) → Encloses parts exponent low high
enclosed parts exponent low high b =
    let within = rw (parts_up_natural parts exponent low) at b.lo_within in
    let last = rw (parts_up_natural parts exponent (low + 1)) at b.lo_last in
    let first = rw (before_next high, parts_down_natural parts exponent high) at b.hi_first in
    let reaches = rw (parts_down_natural parts exponent (suc high)) at b.hi_reaches in
    record {
      within = omega (arith, ints, within);
      last = omega (arith, ints, last);
      first = omega (arith, ints, first);
      reaches = omega (arith, ints, reaches);
    }

-- natural numbers that a bracket's bounds are; the upper one is above zero, since powers of zero are zero
record Ends (parts exponent : ℕ) (b : Bounds) : Type 0 where
  low : ℕ
  high : ℕ
  are : b ≡ between (pos low) (pos (suc high))
  enclose : Encloses parts exponent low high

ends_of : (parts exponent : ℕ) (lo hi : ℤ) → 1 ≤ exponent → IsDecayBracket parts exponent (between lo hi) → Ends parts exponent (between lo hi)
ends_of parts exponent (pos l) (pos (suc h)) e b = record { low = l; high = h; are = refl; enclose = enclosed parts exponent l h b }
ends_of parts exponent (pos l) (pos zero) e b = absurd (omega (arith, ints, b.hi_reaches, down_at_zero parts exponent e))
ends_of parts exponent (negsuc l) hi e b = absurd (omega (arith, ints, b.lo_natural))
ends_of parts exponent (pos l) (negsuc h) e b = absurd (omega (arith, ints, b.hi_natural))

module _ (parts exponent : ℕ) (positive : 1 ≤ exponent) (b : Bounds) (is : IsDecayBracket parts exponent b) where
  ends : Ends parts exponent b
  ends = ends_of parts exponent b.lo b.hi positive is

  pub bracket_ordered : b.lo ≤ℤ b.hi
  bracket_ordered = rw ends.are (omega (arith, ints, ordered parts exponent ends.low ends.high positive ends.enclose))

  pub bracket_holds : HoldsDecay parts exponent b
  bracket_holds = rw ends.are (record {
    lo = omega (arith, ints, low_holds parts exponent ends.low ends.high positive ends.enclose);
    hi = omega (arith, ints, high_holds parts exponent ends.low ends.high positive ends.enclose);
  })

  pub bracket_width : (b.lo +ℤ pos 1) ≤ℤ pos unit_scale → b.hi ≤ℤ (b.lo +ℤ pos (parts + 1))
  bracket_width small =
      let within : ends.low + 1 ≤ unit_scale = let e = rw ends.are at small in omega (arith, ints, e) in
      rw ends.are (omega (arith, ints, width parts exponent ends.low ends.high positive ends.enclose within))

pub one_bracket : (parts exponent : ℕ) (a b : Bounds) → 1 ≤ exponent → IsDecayBracket parts exponent a → IsDecayBracket parts exponent b → b ≡ a
one_bracket parts exponent a b e f g =
    let x = ends parts exponent e a f in
    let y = ends parts exponent e b g in
    let low : y.low ≡ x.low = omega (arith, least_low parts exponent _ _ _ _ x.enclose y.enclose, least_low parts exponent _ _ _ _ y.enclose x.enclose) in
    let high : y.high ≡ x.high = omega (arith, least_high parts exponent _ _ _ _ x.enclose y.enclose, least_high parts exponent _ _ _ _ y.enclose x.enclose) in
    y.are ∙ ap₂ (λ (l h : ℕ). between (pos l) (pos (suc h))) low high ∙ sym x.are
