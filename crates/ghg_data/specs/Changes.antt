-- Keys that are set or removed, and what that makes of data.
use Rattle.std.specs.Prelude.{◌≡◌, ◌⊎◌, ◌+◌, ◌≤◌, List, [], ◌∷◌, map, length, Option}
use Rattle.ghg_units.specs.declared.row.Row.{Row}
use Rattle.ghg_definitions.specs.declared.record.Record.{Record}
use Rattle.ghg_definitions.specs.declared.record.RecordKey.{RecordKey}
use Rattle.ghg_definitions.specs.Data.{Data}
use Rattle.ghg_definitions.specs.Listed.{IsListed}
use Rattle.ghg_definitions.specs.Rows.{key_of, with_record}

-- a key, and the record that it is to have, or none
abbrev pub Change : Type 0
Change = RecordKey × Option Record

-- the data with all changes made; of two changes of a key the first counts
abbrev pub applied : Data → List Change → Data
applied m [] = m
applied m (c ∷ cs) = with_record (applied m cs) c.0 c.1

-- the key has a change
abbrev pub IsChanged : RecordKey → List Change → Type 0
IsChanged key cs = IsListed key (map (λ c. c.0) cs)

-- at most this key is changed beside those of before
pub record ChangesAlso (key : RecordKey) (old new : List Change) : Type 0 where
  pub few : length new ≤ length old + 1
  pub keys : (k : RecordKey) → IsChanged k new → (k ≡ key) ⊎ IsChanged k old

-- each change is of a record that one of the rows is about, and they are no more than the rows
pub record AreOfRows (rows : List Row) (cs : List Change) : Type 0 where
  pub few : length cs ≤ length rows
  pub keys : (k : RecordKey) → IsChanged k cs → IsListed k (map (λ row. key_of row.form) rows)
