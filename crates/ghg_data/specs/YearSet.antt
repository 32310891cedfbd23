-- Sets of years as bits: bit 0 is for the last year, bit 1 for the year before it, and so on.
use Rattle.std.specs.Prelude.{◌≡◌, ℕ, ◌-◌, Bool, false, ◌&&◌, ◌==◌, nat_le, nat_lt, if◌then◌else◌}
use Rattle.std.specs.Int.{bit_at}
use Rattle.ghg_units.specs.Year.{latest_year}
use Rattle.ghg_data.specs.declared.year_set.YearSet.{YearSet}

abbrev pub has_bit : ℕ → ℕ → Bool
has_bit word place = bit_at word place == 1

abbrev pub has_place : YearSet → ℕ → Bool
has_place set place = if nat_lt place 128 then has_bit set.late place else has_bit set.early (place - 128)

-- the year is in the set
abbrev pub has_year : YearSet → ℕ → Bool
has_year set year = nat_le year latest_year && has_place set (latest_year - year)

-- the set is empty
abbrev pub HasNoYear : YearSet → Type 0
HasNoYear set = (year : ℕ) → has_year set year ≡ false
