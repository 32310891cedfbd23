-- Half-lives in tenths of a year, and which of them texts write.
use Rattle.std.specs.Prelude.{ℕ, Bool, List, ◌+◌, ◌*◌, ◌&&◌, ◌==◌, nat_le, Option, Some, None, if◌then◌else◌, option_map, position, take, drop}
use Rattle.ghg_units.specs.declared.half_life.TheConstants.{LONGEST_HALF_LIFE, SHORTEST_HALF_LIFE}
use Rattle.ghg_units.specs.Decimal.{number_in}
use Rattle.ghg_units.specs.Steps.{◌>>=◌}

abbrev pub is_half_life : ℕ → Bool
is_half_life tenths = nat_le SHORTEST_HALF_LIFE tenths && nat_le tenths LONGEST_HALF_LIFE

-- the tenths in the whole years that one or two digits write
unfoldable pub years_in : List ℕ → Option ℕ
years_in text = option_map (λ years. years * 10) (number_in 2 text)

-- the same, and one digit behind the point of a text that has one
abbrev pub parted_at : List ℕ → Option ℕ → Option ℕ
parted_at text None = years_in text
parted_at text (Some point) = do
  years ← years_in (take point text)
  tenth ← number_in 1 (drop (point + 1) text)
  Some (years + tenth)

unfoldable pub tenths_in : List ℕ → Option ℕ
tenths_in text = parted_at text (position (λ b. b == 46) text)

-- the half-life that a text writes in a body of a format
unfoldable pub half_life_in : ℕ → List ℕ → Option ℕ
half_life_in format text = do
  tenths ← if format == 2 then tenths_in text else years_in text
  if is_half_life tenths then Some tenths else None
