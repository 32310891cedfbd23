-- The sizes of a trend are small enough for a running sum.
use Rattle.std.proofs.Common.{◌≡◌, ◌+◌, ◌*◌, ◌≤◌, List, arith, mul-le-mul_left, mul-le-mul_right, ℤ, pos, ◌-ℤ◌, ◌*ℤ◌, unsigned_abs, FitsSigned}
use Rattle.std.specs.Int.{w128}
use Rattle.std.specs.List.{sum_by}
use Rattle.std.proofs.lemmas.Int.{ints, unsigned_abs-mul, fits_signed_from_abs}
use Rattle.ghg_keycat.specs.declared.Pair.{Pair}
use Rattle.ghg_keycat.specs.Entries.{total_limit}
use Rattle.ghg_keycat.specs.Sizes.{gross, level_size, trend_size, gross_limit}
use Rattle.ghg_keycat.proofs.Sums.{sum_within}

pub difference_within : (x y : ℤ) → unsigned_abs (x -ℤ y) ≤ unsigned_abs x + unsigned_abs y
difference_within x y = omega (arith, ints)

-- each size is at most three times the greatest sum, times the pair's magnitudes
pub size_within : (base current : ℤ) (p : Pair) → unsigned_abs base ≤ gross_limit → unsigned_abs current ≤ gross_limit → trend_size base current p ≤ 3 * gross_limit * gross p
size_within base current p h k =
    let own : unsigned_abs ((p.now -ℤ p.base) *ℤ pos (unsigned_abs base)) ≡ unsigned_abs (p.now -ℤ p.base) * unsigned_abs base = unsigned_abs-mul (p.now -ℤ p.base) (pos (unsigned_abs base)) in
    let share : unsigned_abs ((current -ℤ base) *ℤ pos (unsigned_abs p.base)) ≡ unsigned_abs (current -ℤ base) * unsigned_abs p.base = unsigned_abs-mul (current -ℤ base) (pos (unsigned_abs p.base)) in
    let first : unsigned_abs (p.now -ℤ p.base) * unsigned_abs base ≤ unsigned_abs (p.now -ℤ p.base) * gross_limit = mul-le-mul_left (unsigned_abs (p.now -ℤ p.base)) h in
    let change : unsigned_abs (current -ℤ base) ≤ 2 * gross_limit = omega (arith, difference_within current base, h, k) in
    let second : unsigned_abs (current -ℤ base) * unsigned_abs p.base ≤ 2 * gross_limit * unsigned_abs p.base = mul-le-mul_right (unsigned_abs p.base) change in
    omega (arith, difference_within ((p.now -ℤ p.base) *ℤ pos (unsigned_abs base)) ((current -ℤ base) *ℤ pos (unsigned_abs p.base)), own, share, first, second, difference_within p.now p.base)

pub sizes_within : (base current : ℤ) (rows : List Pair) → unsigned_abs base ≤ gross_limit → unsigned_abs current ≤ gross_limit → sum_by gross rows ≤ gross_limit → sum_by (trend_size base current) rows ≤ total_limit
sizes_within base current rows h k small = omega (arith, small, sum_within (trend_size base current) gross (3 * gross_limit) rows (λ p. size_within base current p h k))

pub difference_fits : (x y : ℤ) → unsigned_abs x ≤ 2 * gross_limit * gross_limit → unsigned_abs y ≤ 2 * gross_limit * gross_limit → FitsSigned w128 (x -ℤ y)
difference_fits x y h k = fits_signed_from_abs w128 (x -ℤ y) (omega (arith, difference_within x y, h, k))

pub levels_within : (rows : List Pair) → sum_by level_size rows ≤ sum_by gross rows
levels_within rows = omega (arith, sum_within level_size gross 1 rows (λ p. omega arith))
