-- A percentage that is read is at most the greatest.
use Rattle.std.proofs.Common.{◌≡◌, ◌≤◌, ◌/◌, ◌&&◌, ℕ, ℤ, unsigned_abs, Bool, true, false, List, Option, Some, None, subst, arith, refl, nat_le, option_and_then, if◌then◌else◌}
use Rattle.ghg_units.specs.declared.decimal.Decimal.{Decimal}
use Rattle.ghg_units.specs.Decimal.{decimal_in}
use Rattle.ghg_units.specs.Uncertainty.{decimal_places, hundredth, is_percentage, uncertainty_in}
use Rattle.ghg_units.specs.declared.uncertainty.TheConstants.{GREATEST_UNCERTAINTY}
use Rattle.ghg_units.specs.WellFormed.{IsUncertainty}

percent_within : (z : ℤ) → is_percentage z ≡ true → unsigned_abs z / hundredth ≤ GREATEST_UNCERTAINTY
percent_within z e = grind (arith, e)

pub within_greatest : (text : List ℕ) (found : ℕ) → uncertainty_in text ≡ Some found → IsUncertainty found
unfolding uncertainty_in
within_greatest text found e = by (decimal_in text) e
  where
    tested : (few within : Bool) (z : ℤ) → is_percentage z ≡ within → (if few && within then Some (unsigned_abs z / hundredth) else None) ≡ Some found → IsUncertainty found
    tested true true z w e = let same : unsigned_abs z / hundredth ≡ found = cc in subst IsUncertainty same (percent_within z w)
    tested true false z w e = absurd (cc)
    tested false within z w e = absurd (cc)

    by : (o : Option Decimal) → option_and_then (λ (d : Decimal). if nat_le (decimal_places text) 2 && is_percentage d.scaled then Some (unsigned_abs d.scaled / hundredth) else None) o ≡ Some found → IsUncertainty found
    by None e = absurd (cc)
    by (Some d) e = tested (nat_le (decimal_places text) 2) (is_percentage d.scaled) d.scaled refl e
