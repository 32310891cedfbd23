-- The names of tables.
use Rattle.std.specs.Prelude.{ℕ, List, [], ◌∷◌, codes, find, Option}
use Rattle.std.specs.Str.{bytes_eq}
use Rattle.ghg_tables.specs.declared.table.Table.{Table}
use Rattle.ghg_tables.specs.declared.table.Table.TheVariants as table

abbrev pub table_name : Table → List ℕ
table_name table.Cells = codes "cells"
table_name table.Summary = codes "summary"
table_name table.Series = codes "series"
table_name table.Reference = codes "reference"
table_name table.Uncertainty = codes "uncertainty"
table_name table.Level = codes "level"
table_name table.Trend = codes "trend"
table_name table.Checks = codes "checks"

abbrev pub tables : List Table
tables =
    table.Cells ∷ table.Summary ∷ table.Series ∷ table.Reference ∷ table.Uncertainty
    ∷ table.Level ∷ table.Trend ∷ table.Checks ∷ []

-- the table that a text names
abbrev pub table_in : List ℕ → Option Table
table_in text = find (λ t. bytes_eq (table_name t) text) tables
