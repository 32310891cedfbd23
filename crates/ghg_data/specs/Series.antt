-- What has a record for each of several years.
use Rattle.std.specs.Prelude.{◌≡◌, ℕ, Bool, false, List, Option, Some, None}
use Rattle.std.specs.Map.{lookup}
use Rattle.std.specs.Str.{bytes_eq}
use Rattle.ghg_definitions.specs.declared.record.RecordKey.{RecordKey}
use Rattle.ghg_definitions.specs.declared.record.RecordKey.TheVariants as key
use Rattle.ghg_data.specs.declared.series.Series.{Series}
use Rattle.ghg_data.specs.declared.series.Series.TheVariants as series
use Rattle.ghg_data.specs.declared.year_set.YearSet.{YearSet}
use Rattle.ghg_data.specs.YearSet.{HasNoYear}

abbrev pub same_series : Series → Series → Bool
same_series (series.Activity a) (series.Activity b) = bytes_eq a b
same_series (series.Factor a) (series.Factor b) = bytes_eq a b
same_series _ _ = false

-- the key of a series' record of a year
abbrev pub dated : Series → ℕ → RecordKey
dated (series.Activity name) year = key.Activity name year
dated (series.Factor name) year = key.Factor name year

-- the series and the year that a key is of
abbrev pub date_of : RecordKey → Option (Series × ℕ)
date_of key.Span = None
date_of (key.Activity name year) = Some (series.Activity name, year)
date_of (key.Factor name start) = Some (series.Factor name, start)
date_of (key.Line name) = None
date_of (key.Bind line parameter) = None
date_of (key.Uncert line) = None

-- each of the series has a year
abbrev pub EachHasAYear : List (Series × YearSet) → Type 0
EachHasAYear entries = (s : Series) (years : YearSet) → lookup (same_series s) entries ≡ Some years
    → ¬ HasNoYear years
