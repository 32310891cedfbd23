-- The nearest whole number, and how far off it is.
use Rattle.std.proofs.Common.{ℕ, zero, suc, ◌+◌, ◌*◌, ◌<◌, ◌≤◌, arith, ℤ, pos, negsuc, neg_ℤ}
use Rattle.std.proofs.lemmas.Int.{ints}
use Rattle.std.proofs.Math.Nat.{div-add-mod, mod-lt}
use Rattle.ghg_tables.specs.Laws.{IsNearest}
use Rattle.ghg_tables.specs.Rounding.{nearest, nearest_magnitude}

-- the distance of d times the nearest magnitude
pub record IsClose (d a m : ℕ) : Type 0 where
  pub above : 2 * m ≤ 2 * a + d
  pub below : 2 * a < 2 * m + d

pub close : (d a : ℕ) → 0 < d → IsClose d a (d * nearest_magnitude d a)
close d a positive =
    let whole = div-add-mod (2 * a + d) (2 * d) in
    let rest = mod-lt (2 * a + d) {m = 2 * d} (omega arith) in
    record { above = omega (arith, whole); below = omega (arith, whole, rest) }

below_zero : (d a q : ℕ) → IsClose d (suc a) (d * q) → IsNearest d (negsuc a) (neg_ℤ (pos q))
below_zero d a zero near = record {
  close = omega (arith, ints, near.above, near.below);
  away = λ tie. omega (arith, ints, near.above, near.below);
}
below_zero d a (suc q) near = record {
  close = omega (arith, ints, near.above, near.below);
  away = λ tie. omega (arith, ints, near.above, near.below);
}

pub nearest_is : (d : ℕ) (z : ℤ) → 0 < d → IsNearest d z (nearest d z)
nearest_is d (pos a) positive = let near = close d a positive in record {
  close = omega (arith, ints, near.above, near.below);
  away = λ tie. omega (arith, ints, near.above, near.below);
}
nearest_is d (negsuc a) positive = below_zero d a (nearest_magnitude d (suc a)) (close d (suc a) positive)
