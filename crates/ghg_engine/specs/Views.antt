-- What contracts see of an engine.
use Rattle.std.specs.Prelude.{ℕ, refl}
use Rattle.std.specs.FinMap.{code}
use Rattle.std.specs.Coded.{Coded, code_by, coded×, coded_ℕ}
use Rattle.ghg_columns.specs.declared.cells.Cells.{Cells}
use Rattle.ghg_definitions.specs.declared.record.Record.{Record}
use Rattle.ghg_definitions.specs.declared.record.RecordKey.{RecordKey}
use Rattle.ghg_definitions.specs.Data.{Data}
use Rattle.ghg_data.specs.Shelf.{Shelf}
use Rattle.ghg_search.specs.declared.index.Index.{Index}

-- its data, how many more changes of them fit without memory, its cells, and its index
pub record EngineView : Type 0 where
  pub content : Data
  pub spare : ℕ
  pub cells : Cells
  pub index : Index

abbrev pub engine_code : Coded RecordKey → Coded Record → Coded Cells → Coded Index → Coded EngineView
engine_code key entry cells index =
    code_by (Data × (ℕ × (Cells × Index))) (coded× (code key entry) (coded× coded_ℕ (coded× cells index)))
    (λ e. (e.content, (e.spare, (e.cells, e.index))))
    (λ p. record { content = p.0; spare = p.1.0; cells = p.1.1.0; index = p.1.1.1 }) (λ _. refl)

-- what contracts see of its book
abbrev pub shelf_of : EngineView → Shelf
shelf_of e = record { content = e.content; spare = e.spare }
