-- Powers of natural numbers with rounding: their order, their bounds, and how near both roundings are.
use Rattle.std.proofs.Common.{◌≡◌, ℕ, zero, suc, ◌+◌, ◌*◌, ◌/◌, ◌^◌, ◌<◌, ◌≤◌, refl, ap, arith, mul-le-mul, mul-le-mul_right, mul-le-mul_left, div-mul-le_self, mul-zero}
use Rattle.std.specs.Int.{div_ceil}
use native.Mathlib.Nat.{pow-zero, pow-suc, pow-lt-pow_left}
use native.Mathlib.Decide.{dec_lt}
use Prim.{yes, no}
use Rattle.ghg_interval.specs.Bounds.{unit_scale}

-- x to the power n at the scale, with each product rounded up, and rounded down
abbrev pub up : ℕ → ℕ → ℕ
up x zero = unit_scale
up x (suc n) = div_ceil (up x n * x) unit_scale

abbrev pub down : ℕ → ℕ → ℕ
down x zero = unit_scale
down x (suc n) = down x n * x / unit_scale

-- ---- one product

ceil_order : (a b : ℕ) → a ≤ b → div_ceil a unit_scale ≤ div_ceil b unit_scale
ceil_order a b h = omega arith

floor_order : (a b : ℕ) → a ≤ b → a / unit_scale ≤ b / unit_scale
floor_order a b h = omega arith

ceil_above : (a : ℕ) → a ≤ div_ceil a unit_scale * unit_scale
ceil_above a = omega arith

-- what is above a product by a unit, rounded down, is at least the product rounded up
ceil_floor : (a b : ℕ) → a + unit_scale ≤ b → div_ceil a unit_scale ≤ b / unit_scale
ceil_floor a b h = omega arith

ceil_within : (a b : ℕ) → a ≤ b * unit_scale → div_ceil a unit_scale ≤ b
ceil_within a b h = omega arith

floor_within : (a b : ℕ) → a ≤ b * unit_scale → a / unit_scale ≤ b
floor_within a b h = omega arith

-- ---- order

pub up_order : (x y n : ℕ) → x ≤ y → up x n ≤ up y n
up_order x y zero h = omega arith
up_order x y (suc n) h = ceil_order (up x n * x) (up y n * y) (mul-le-mul (up_order x y n h) h)

pub down_order : (x y n : ℕ) → x ≤ y → down x n ≤ down y n
down_order x y zero h = omega arith
down_order x y (suc n) h = floor_order (down x n * x) (down y n * y) (mul-le-mul (down_order x y n h) h)

-- ---- what is at most a unit

up_step : (x n : ℕ) → x ≤ unit_scale → up x (suc n) ≤ up x n
up_step x n h = ceil_within (up x n * x) (up x n) (mul-le-mul_left (up x n) h)

-- ---- both ends of the search

pub up_zero : (n : ℕ) → 1 ≤ n → up 0 n ≡ 0
up_zero zero h = absurd (omega arith)
up_zero (suc n) h = rw (mul-zero (up 0 n)) refl

pub down_zero : (n : ℕ) → 1 ≤ n → down 0 n ≡ 0
down_zero zero h = absurd (omega arith)
down_zero (suc n) h = rw (mul-zero (down 0 n)) refl

pub up_whole : (n : ℕ) → up unit_scale n ≡ unit_scale
up_whole zero = refl
up_whole (suc n) = ap (λ a. div_ceil (a * unit_scale) unit_scale) (up_whole n)

pub down_whole : (n : ℕ) → down unit_scale n ≡ unit_scale
down_whole zero = refl
down_whole (suc n) = ap (λ a. a * unit_scale / unit_scale) (down_whole n)

-- ---- against the power without rounding

pub down_power : (x n : ℕ) → down x n * unit_scale ^ n ≤ x ^ n * unit_scale
down_power x zero = omega (arith, pow-zero unit_scale, pow-zero x)
down_power x (suc n) =
    let first = mul-le-mul_right (unit_scale ^ n) (div-mul-le_self (down x n * x) unit_scale) in
    let second = mul-le-mul_right x (down_power x n) in
    rw (pow-suc unit_scale n, pow-suc x n) (omega (arith, first, second))

pub up_power : (x n : ℕ) → x ^ n * unit_scale ≤ up x n * unit_scale ^ n
up_power x zero = omega (arith, pow-zero unit_scale, pow-zero x)
up_power x (suc n) =
    let first = mul-le-mul_right (unit_scale ^ n) (ceil_above (up x n * x)) in
    let second = mul-le-mul_right x (up_power x n) in
    rw (pow-suc unit_scale n, pow-suc x n) (omega (arith, first, second))

-- ---- how near both are

-- x raised by `parts` outweighs the roundings of each step, while the power is at least one part of a unit
pub near : (parts x n : ℕ) → x ≤ unit_scale → unit_scale ≤ parts * up x n → up x n ≤ down (x + parts) n
near parts x zero h k = omega arith
near parts x (suc n) h k =
    let before : unit_scale ≤ parts * up x n = omega (arith, k, mul-le-mul_left parts (up_step x n h)) in
    let raised : up x n * (x + parts) ≤ down (x + parts) n * (x + parts) = mul-le-mul_right (x + parts) (near parts x n h before) in
    ceil_floor (up x n * x) (down (x + parts) n * (x + parts)) (omega (arith, raised, before))

-- ---- what brackets a number of which so many powers are a unit

pub record Encloses (parts exponent low high : ℕ) : Type 0 where
  pub within : parts * up low exponent ≤ unit_scale
  pub last : unit_scale < parts * up (low + 1) exponent
  pub first : parts * down high exponent < unit_scale
  pub reaches : unit_scale ≤ parts * down (suc high) exponent

module _ (parts exponent low high : ℕ) (positive : 1 ≤ exponent) (b : Encloses parts exponent low high) where
  pub low_holds : parts * low ^ exponent ≤ unit_scale ^ exponent
  low_holds =
      let first = mul-le-mul_right (unit_scale ^ exponent) b.within in
      let second = mul-le-mul_left parts (up_power low exponent) in
      omega (arith, first, second)

  pub high_holds : unit_scale ^ exponent ≤ parts * (suc high) ^ exponent
  high_holds =
      let first = mul-le-mul_right (unit_scale ^ exponent) b.reaches in
      let second = mul-le-mul_left parts (down_power (suc high) exponent) in
      omega (arith, first, second)

  pub ordered : low ≤ suc high
  ordered = elim (dec_lt (suc high) low) [
    | yes l ↦
        let more : (suc high) ^ exponent < low ^ exponent = pow-lt-pow_left l (λ e. omega (arith, e, b.first, b.reaches)) in
        let raised : parts * suc ((suc high) ^ exponent) ≤ parts * low ^ exponent = mul-le-mul_left parts more in
        let none : parts ≤ 0 = omega (arith, raised, low_holds, high_holds) in
        absurd (omega (arith, b.reaches, mul-le-mul_right (down (suc high) exponent) none))
    | no not ↦ omega (arith, not)
  ]

  pub width : low + 1 ≤ unit_scale → suc high ≤ low + (parts + 1)
  width small = elim (dec_lt (low + parts) high) [
    | yes l ↦
        let reaches : up (low + 1) exponent ≤ down (low + 1 + parts) exponent = near parts (low + 1) exponent small (omega (arith, b.last)) in
        let more : down (low + 1 + parts) exponent ≤ down high exponent = down_order (low + 1 + parts) high exponent (omega arith) in
        absurd (omega (arith, b.last, b.first, mul-le-mul_left parts reaches, mul-le-mul_left parts more))
    | no not ↦ omega (arith, not)
  ]

-- of two such brackets neither has the greater end
pub least_low : (parts exponent low high l h : ℕ) → Encloses parts exponent low high → Encloses parts exponent l h → low ≤ l
least_low parts exponent low high l h a b = elim (dec_lt l low) [
  | yes less ↦ absurd (omega (arith, a.within, b.last, mul-le-mul_left parts (up_order (l + 1) low exponent (omega arith))))
  | no not ↦ omega (arith, not)
]

pub least_high : (parts exponent low high l h : ℕ) → Encloses parts exponent low high → Encloses parts exponent l h → high ≤ h
least_high parts exponent low high l h a b = elim (dec_lt h high) [
  | yes less ↦ absurd (omega (arith, a.first, b.reaches, mul-le-mul_left parts (down_order (suc h) high exponent (omega arith))))
  | no not ↦ omega (arith, not)
]
