-- What is said of the forms of rows alone.
use Rattle.std.specs.Prelude.{ℕ, List}
use Rattle.std.specs.List.{AllByRecursion}
use Rattle.ghg_units.specs.WellFormed.{IsWellFormed}
use Rattle.ghg_import.specs.Reading.{reading_of}

-- each row that a body says is well formed
abbrev pub RowsAreWellFormed : Type 0
RowsAreWellFormed = (body : List ℕ) → AllByRecursion IsWellFormed (reading_of body).rows
