-- What versions keep.
use Rattle.std.specs.Prelude.{◌≡◌, ℕ, ◌-◌, ◌≤◌, nat_le, if◌then◌else◌, List, length, Option, None, option_map, slice_get}
use Rattle.ghg_definitions.specs.Data.{Data}
use Rattle.ghg_keeper.specs.declared.row.KeptRow.{KeptRow}
use Rattle.ghg_tables.specs.declared.values.PairValue.{PairValue}
use Rattle.ghg_versions.specs.declared.version.KeptVersion.{KeptVersion}
use Rattle.ghg_versions.specs.declared.version.Report.{Report}
use Rattle.ghg_versions.specs.Desk.{Version, data_of, values_at}

-- the values of a year
abbrev pub column_at : Report → ℕ → Option (List PairValue)
column_at r year =
    if nat_le r.first year then option_map (λ kept. kept.items) (slice_get r.years.items (year - r.first))
    else None

-- the report has the values of each year of the data, and of no other
pub record IsReportOf (m : Data) (r : Report) : Type 0 where
  pub each : (year : ℕ) → column_at r year ≡ values_at m year

-- a version as contracts see it
abbrev pub version_of : KeptVersion → Version
version_of v = record { name = v.name; seq = v.seq }

-- the version has the values of the data that the first accepted submissions give, as many as its number says
pub record IsKept (accepted : List KeptRow) (v : KeptVersion) : Type 0 where
  pub within : v.seq ≤ length accepted
  pub report : IsReportOf (data_of accepted v.seq) v.report
