-- Sets of years.
use Rattle.std.specs.Prelude.{◌≡◌, ◌≤◌, ◌<◌, ℕ, true}
use Rattle.ghg_units.specs.Year.{is_year}
use Rattle.ghg_data.specs.declared.year_set.YearSet.{YearSet}
use Rattle.ghg_data.specs.YearSet.{has_year}

-- it has no years but those that a record may be of
abbrev pub AreYears : YearSet → Type 0
AreYears years = (year : ℕ) → has_year years year ≡ true → is_year year ≡ true

-- it has the years from one on that are before another, of those that a record may be of
pub record AreBetween (first end : ℕ) (years : YearSet) : Type 0 where
  pub only : (year : ℕ) → has_year years year ≡ true → (is_year year ≡ true) × (first ≤ year) × (year < end)
  pub all : (year : ℕ) → is_year year ≡ true → first ≤ year → year < end → has_year years year ≡ true
