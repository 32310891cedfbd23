-- What contracts see of a book: its data, and how many more changes fit without memory.
use Rattle.std.specs.Prelude.{ℕ, ◌≤◌, List, length, refl}
use Rattle.std.specs.FinMap.{code}
use Rattle.std.specs.Coded.{Coded, code_by, coded×, coded_ℕ}
use Rattle.ghg_definitions.specs.declared.record.Record.{Record}
use Rattle.ghg_definitions.specs.declared.record.RecordKey.{RecordKey}
use Rattle.ghg_definitions.specs.Data.{Data}
use Rattle.ghg_definitions.specs.Sound.{IsWorkbook}
use Rattle.ghg_data.specs.Changes.{Change, applied}

pub record Shelf : Type 0 where
  pub content : Data
  pub spare : ℕ

abbrev pub shelf_code : Coded RecordKey → Coded Record → Coded Shelf
shelf_code key entry = code_by (Data × ℕ) (coded× (code key entry) coded_ℕ) (λ s. (s.content, s.spare))
    (λ p. record { content = p.0; spare = p.1 }) (λ _. refl)

-- the changes fit, and leave a workbook
pub record IsPlanned (shelf : Shelf) (edits : List Change) : Type 0 where
  pub room : length edits ≤ shelf.spare
  pub workbook : IsWorkbook (applied shelf.content edits)
