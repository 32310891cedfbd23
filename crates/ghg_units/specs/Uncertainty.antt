-- Percentages of uncertainty records, and which of them texts write.
use Rattle.std.specs.Prelude.{ℕ, ◌+◌, ◌-◌, ◌*◌, ◌/◌, ◌^◌, ℤ, pos, unsigned_abs, Bool, List, length, ◌==◌, ◌&&◌, nat_le, int_le, Option, Some, None, if◌then◌else◌, position}
use Rattle.std.specs.Option.{option_map_or}
use Rattle.ghg_units.specs.declared.decimal.TheConstants.Decimal.{PLACES}
use Rattle.ghg_units.specs.declared.uncertainty.TheConstants.{GREATEST_UNCERTAINTY}
use Rattle.ghg_units.specs.Decimal.{decimal_in}
use Rattle.ghg_units.specs.Steps.{◌>>=◌}

-- a hundredth in 10^-12
abbrev pub hundredth : ℕ
hundredth = 10 ^ (PLACES - 2)

-- a number of percent, in 10^-12, that is not below zero and not above the greatest
abbrev pub is_percentage : ℤ → Bool
is_percentage scaled = int_le (pos 0) scaled && int_le scaled (pos (GREATEST_UNCERTAINTY * hundredth))

-- how many digits stand behind a text's first point
unfoldable pub decimal_places : List ℕ → ℕ
decimal_places text = option_map_or (λ point. length text - (point + 1)) (position (λ b. b == 46) text) 0

-- the percentage that a text writes with at most two places, in hundredths of a percent
unfoldable pub uncertainty_in : List ℕ → Option ℕ
uncertainty_in text = do
  percent ← decimal_in text
  if nat_le (decimal_places text) 2 && is_percentage percent.scaled then
      Some (unsigned_abs percent.scaled / hundredth)
      else None
