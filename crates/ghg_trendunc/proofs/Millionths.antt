-- A sensitivity times a percentage, in millionths.
use Rattle.std.proofs.Common.{◌≡◌, ℕ, zero, suc, ◌*◌, ◌/◌, ◌<◌, refl, sym, ap, arith, pos, unsigned_abs}
use Rattle.std.specs.Int.{div_ceil}
use Rattle.ghg_interval.specs.Fractions.{Fraction, product}
use Rattle.ghg_uncertainty.proofs.Rounded.{ceil_natural}
use Rattle.ghg_trendunc.specs.Ends.{millionths_down, millionths_up, over}
use Rattle.ghg_trendunc.specs.Lines.{hundredths}

abbrev pub fraction : (n d : ℕ) → 0 < d → Fraction
fraction n d some = record { numerator = pos n; denominator = d; positive = some }

pub up_is : (n d : ℕ) (some : 0 < d) → millionths_up (fraction n d some) ≡ div_ceil (n * 1_000_000) d
up_is n d some = sym (ap unsigned_abs (ceil_natural d (n * 1_000_000) some))

pub low_end : (n d p : ℕ) → 0 < d → n * p * 1_000_000 / (d * 100) ≡ millionths_down (product (over n d) (hundredths p))
low_end n zero p some = absurd (omega (arith, some))
low_end n (suc d) p some = refl

pub high_end : (n d p : ℕ) → 0 < d → div_ceil (n * p * 1_000_000) (d * 100) ≡ millionths_up (product (over n d) (hundredths p))
high_end n zero p some = absurd (omega (arith, some))
high_end n (suc d) p some = sym (up_is (n * p) (suc d * 100) (omega arith))
