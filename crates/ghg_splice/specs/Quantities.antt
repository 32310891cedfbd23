-- What the formulas are computed by: exact fractions, or a point and a range side by side.
use Rattle.std.specs.Prelude.{ℕ, zero, suc, Option, Some, None}
use Rattle.std.specs.Result.{result_ok}
use Rattle.std.proofs.Math.Nat.{zero-lt-suc}
use Rattle.ghg_interval.specs.Bounds.{Bounds}
use Rattle.ghg_interval.specs.Fractions as fraction
use Rattle.ghg_interval.specs.Fractions.{Fraction}
use Rattle.ghg_interval.specs.Operations.{product_in, quotient_in, scaled_in, sum_in}
use Rattle.ghg_units.specs.Steps.{◌>>=◌}
use Rattle.ghg_splice.specs.declared.quantity.Quantity.{Quantity}

-- the operations of the formulas: n times a number, and one of n parts of it, among them
pub record Arithmetic (A : Type 0) : Type 0 where
  pub sum : A → A → Option A
  pub product : A → A → Option A
  pub quotient : A → A → Option A
  pub times : ℕ → A → Option A
  pub over : ℕ → A → Option A

-- ---- points and ranges

-- one of n parts, of which there are some, within the limit
abbrev pub part_in : ℕ → Bounds → Option Bounds
part_in zero a = None
part_in (suc n) a = result_ok (scaled_in 1 (suc n) a)

-- an operation on the point, and the same on the range
abbrev pub on_one : (Bounds → Option Bounds) → Quantity → Option Quantity
on_one operation a = do
  point ← operation a.point
  range ← operation a.range
  Some (record { point = point; range = range })

-- an operation on two points, and the same on their ranges
abbrev pub on_two : (Bounds → Bounds → Option Bounds) → Quantity → Quantity → Option Quantity
on_two operation a b = do
  point ← operation a.point b.point
  range ← operation a.range b.range
  Some (record { point = point; range = range })

-- the operations of intervals, which round outward; nothing, where one is beyond the limit
abbrev pub quantities : Arithmetic Quantity
quantities = record {
  sum = on_two (λ a b. result_ok (sum_in a b));
  product = on_two (λ a b. result_ok (product_in a b));
  quotient = on_two (λ a b. result_ok (quotient_in a b));
  times = λ n. on_one (λ a. result_ok (scaled_in n 1 a));
  over = λ n. on_one (part_in n);
}

-- ---- exact fractions

abbrev pub exact_part : ℕ → Fraction → Option Fraction
exact_part zero f = None
exact_part (suc n) f = Some (fraction.scaled 1 (suc n) (zero-lt-suc n) f)

-- the operations of fractions; no formula divides by what may be zero
abbrev pub fractions : Arithmetic Fraction
fractions = record {
  sum = λ f g. Some (fraction.sum f g);
  product = λ f g. Some (fraction.product f g);
  quotient = λ f g. Some (fraction.quotient f g);
  times = λ n f. Some (fraction.scaled n 1 (zero-lt-suc 0) f);
  over = exact_part;
}
