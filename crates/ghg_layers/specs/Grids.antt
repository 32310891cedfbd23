-- Ranks by row and year.
use Rattle.std.specs.Prelude.{◌≡◌, ◌≢◌, ℕ, List, [], length, map, slice_index, slice_index_or}
use Rattle.ghg_layers.specs.declared.grid.Grid.{Grid}

abbrev pub height : Grid → ℕ
height g = length g.rows.items

-- the rank in a row and year; 0 where none was set
abbrev pub cell : Grid → ℕ → ℕ → ℕ
cell g row year = slice_index (slice_index_or (map (λ r. r.items) g.rows.items) row []) year

-- the rank is set in the year, and the ranks of other years stay
pub record IsSetIn (year rank : ℕ) (old new : List ℕ) : Type 0 where
  pub itself : slice_index new year ≡ rank
  pub others : (z : ℕ) → z ≢ year → slice_index new z ≡ slice_index old z

-- the rank is set in the row and year, and all others stay
pub record IsSet (row year rank : ℕ) (old new : Grid) : Type 0 where
  pub itself : cell new row year ≡ rank
  pub others : (i z : ℕ) → ((i ≡ row) → (z ≡ year) → ⊥) → cell new i z ≡ cell old i z
