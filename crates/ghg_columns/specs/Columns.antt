-- The values of a series, year by year.
use Rattle.std.specs.Prelude.{◌<◌, ◌≤◌, ℕ, ◌+◌, ◌-◌, if◌then◌else◌, nat_le, length, slice_index_or, Option, None}
use Rattle.ghg_cell.specs.declared.input.Input.{Input}
use Rattle.ghg_columns.specs.declared.column.Column.{Column}

-- the value of a year, if it has one
abbrev pub value_in : Column → ℕ → Option Input
value_in column year =
    if nat_le column.first year then slice_index_or column.slots.items (year - column.first) None else None

-- the year behind the last that has a slot
abbrev pub end_of : Column → ℕ
end_of column = column.first + length column.slots.items

-- each slot of the fresh column has its place: the kept column reaches over their years, or has no slots
pub record CanTake (kept fresh : Column) : Type 0 where
  pub first : 0 < length kept.slots.items → kept.first ≤ fresh.first
  pub end : 0 < length kept.slots.items → end_of fresh ≤ end_of kept
