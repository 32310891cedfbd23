-- How large products of tonnes are.
use Rattle.std.proofs.Common.{◌*◌, ◌≤◌, arith, mul-le-mul, ℤ, ◌*ℤ◌, unsigned_abs, FitsSigned}
use Rattle.std.specs.Int.{w128}
use Rattle.std.proofs.lemmas.Int.{unsigned_abs-mul, fits_signed_from_abs}
use Rattle.ghg_uncertainty.specs.Totals.{amount_limit}
use Rattle.ghg_trendunc.specs.Lines.{sum_limit}

pub product_within : (x y : ℤ) → unsigned_abs x ≤ amount_limit → unsigned_abs y ≤ sum_limit → unsigned_abs (x *ℤ y) ≤ amount_limit * sum_limit
product_within x y h k = omega (arith, unsigned_abs-mul x y, mul-le-mul h k)

pub product_fits : (x y : ℤ) → unsigned_abs x ≤ amount_limit → unsigned_abs y ≤ sum_limit → FitsSigned w128 (x *ℤ y)
product_fits x y h k = fits_signed_from_abs w128 (x *ℤ y) (omega (arith, product_within x y h k))
