-- Powers of scaled numbers are those of natural numbers.
use Rattle.std.proofs.Common.{◌≡◌, ℕ, zero, suc, ◌*◌, ◌/◌, pos, ◌*ℤ◌, refl, ap, ◌∙◌, arith}
use Rattle.std.specs.Int.{div_ceil}
use Rattle.std.proofs.lemmas.Int.{ints}
use Rattle.ghg_interval.specs.Bounds.{unit_scale}
use Rattle.ghg_interval.specs.Rounding.{floor_by, ceil_by}
use Rattle.ghg_roots.specs.Decay.{power_up, power_down, parts_up, parts_down}
use Rattle.ghg_roots.proofs.Powers.{up, down}

pub ceil_natural : (n : ℕ) → ceil_by unit_scale (pos n) ≡ pos (div_ceil n unit_scale)
ceil_natural zero = refl
ceil_natural (suc n) = omega (arith, ints)

pub floor_natural : (n : ℕ) → floor_by unit_scale (pos n) ≡ pos (n / unit_scale)
floor_natural n = refl

pub up_natural : (x n : ℕ) → power_up (pos x) n ≡ pos (up x n)
up_natural x zero = refl
up_natural x (suc n) = ap (λ z. ceil_by unit_scale (z *ℤ pos x)) (up_natural x n) ∙ ceil_natural (up x n * x)

pub down_natural : (x n : ℕ) → power_down (pos x) n ≡ pos (down x n)
down_natural x zero = refl
down_natural x (suc n) = ap (λ z. floor_by unit_scale (z *ℤ pos x)) (down_natural x n) ∙ floor_natural (down x n * x)

pub parts_up_natural : (parts exponent x : ℕ) → parts_up parts exponent (pos x) ≡ pos (parts * up x exponent)
parts_up_natural parts exponent x = ap (λ z. pos parts *ℤ z) (up_natural x exponent)

pub parts_down_natural : (parts exponent x : ℕ) → parts_down parts exponent (pos x) ≡ pos (parts * down x exponent)
parts_down_natural parts exponent x = ap (λ z. pos parts *ℤ z) (down_natural x exponent)
