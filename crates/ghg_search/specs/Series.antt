-- Nodes of a series in several years.
use Rattle.std.specs.Prelude.{◌≡◌, ℕ, true}
use Rattle.ghg_units.specs.declared.node.Node.{Node}
use Rattle.ghg_columns.specs.declared.series.Series.{Series}
use Rattle.ghg_columns.specs.Cells.{series_of}
use Rattle.ghg_data.specs.declared.year_set.YearSet.{YearSet}
use Rattle.ghg_data.specs.YearSet.{has_year}
use Rattle.ghg_definitions.specs.Nodes.{year_in}

-- the node is one of the series, in one of the years
abbrev pub IsOf : Series → YearSet → Node → Type 0
IsOf s years n = (series_of n ≡ s) × (has_year years (year_in n) ≡ true)

-- what holds in one of the years
abbrev pub Within : YearSet → (ℕ → Node → Type 0) → Node → Type 0
Within years P n = (year : ℕ) × (has_year years year ≡ true) × P year n
