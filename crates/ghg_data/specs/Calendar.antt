-- The years of the records of each activity and factor.
use Rattle.std.specs.Prelude.{◌≡◌, ℕ, ◌==◌, Bool, true, false, cond, ◌&&◌, Option, Some, None}
use Rattle.std.specs.Map.{lookup}
use Rattle.std.specs.Ordering.{eq_by_cmp}
use Rattle.ghg_definitions.specs.declared.record.Record.{Record}
use Rattle.ghg_definitions.specs.declared.record.RecordKey.{RecordKey}
use Rattle.ghg_definitions.specs.Data.{key_cmp}
use Rattle.ghg_data.specs.declared.calendar.Calendar.{Calendar}
use Rattle.ghg_data.specs.declared.year_set.YearSet.{YearSet}
use Rattle.ghg_data.specs.declared.series.Series.{Series}
use Rattle.ghg_units.specs.Year.{is_year}
use Rattle.ghg_data.specs.Series.{dated, same_series}
use Rattle.ghg_data.specs.YearSet.{has_year}

abbrev pub holds_year : Option YearSet → ℕ → Bool
holds_year None year = false
holds_year (Some years) year = has_year years year

-- the calendar has this year of the series
abbrev pub has_date : Calendar → Series → ℕ → Bool
has_date calendar s year = holds_year (lookup (same_series s) calendar.years.entries) year

-- the calendar has exactly the years whose keys pass the test
abbrev pub IsCalendarOf : (RecordKey → Bool) → Calendar → Type 0
IsCalendarOf passes calendar = (s : Series) (year : ℕ) → has_date calendar s year ≡ is_year year && passes
    (dated s year)

-- the years of all series are as before
abbrev pub HasSameDates : Calendar → Calendar → Type 0
HasSameDates old new = (s : Series) (y : ℕ) → has_date new s y ≡ has_date old s y

-- the year of a key is there, or is not; the others are as before
abbrev pub IsNoted : Calendar → Calendar → RecordKey → Bool → Type 0
IsNoted old new key present = (s : Series) (y : ℕ) → has_date new s y ≡
    cond (is_year y && eq_by_cmp key_cmp (dated s y) key) present (has_date old s y)

-- a series has a year, or has not; the others are as before
abbrev pub HasYearSet : Calendar → Calendar → Series → ℕ → Bool → Type 0
HasYearSet old new series year present = (s : Series) (y : ℕ) → has_date new s y ≡ cond (same_series series s)
    (cond (is_year year && (y == year)) present (has_date old series y)) (has_date old s y)

-- a key is changed, and has a record then, or has none
abbrev pub is_put : Option (Option Record) → Bool
is_put None = false
is_put (Some None) = false
is_put (Some (Some r)) = true

abbrev pub is_taken : Option (Option Record) → Bool
is_taken None = false
is_taken (Some None) = true
is_taken (Some (Some r)) = false
