-- What a factor gives in years that follow each other.
use Rattle.std.specs.Prelude.{◌≡◌, ◌≤◌, ◌<◌, ℕ, true, is_some, Option, Some, None}
use Rattle.ghg_definitions.specs.Data.{Data, Name, figure}
use Rattle.ghg_definitions.specs.declared.record.RecordKey.TheVariants as key
use Rattle.ghg_definitions.specs.Lookups.{factor_input}
use Rattle.ghg_data.specs.declared.lasting.Lasting.{Lasting}

-- the factor gives the same in each of the years
abbrev pub IsLasting : Data → Name → Lasting → Type 0
IsLasting m name lasting = (year : ℕ) → lasting.first ≤ year → year ≤ lasting.last →
    factor_input m name year ≡ lasting.input

-- the year is one of them
abbrev pub HasYear : Lasting → ℕ → Type 0
HasYear lasting year = (lasting.first ≤ year) × (year ≤ lasting.last)

-- no record of the factor starts after the year and before the other
abbrev pub NoneStartsBetween : Data → Name → ℕ → ℕ → Type 0
NoneStartsBetween m name year other = (y : ℕ) → year < y → y < other → figure m (key.Factor name y) ≡ None

-- the first record of the factor that starts after the year starts in that year, if there is one
abbrev pub IsNextStart : Data → Name → ℕ → Option ℕ → Type 0
IsNextStart m name year None = (y : ℕ) → year < y → figure m (key.Factor name y) ≡ None
IsNextStart m name year (Some start) = (year < start) × (is_some (figure m (key.Factor name start)) ≡ true) ×
    NoneStartsBetween m name year start
