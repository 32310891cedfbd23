-- What the replies to requests for tables say of the data in force: the bounds in each table hold the exact
-- values of its nodes.
use Rattle.std.specs.Prelude.{◌≡◌, ℕ, true, List, Some}
use Rattle.ghg_definitions.specs.Compilation.{is_year_of}
use Rattle.ghg_definitions.specs.Data.{span}
use Rattle.ghg_office.specs.declared.reply.Reply.{Reply}
use Rattle.ghg_office.specs.declared.reply.Reply.TheVariants.{NoTable, Table as Shown}
use Rattle.ghg_office.specs.Office.{State, requested}
use Rattle.ghg_tables.specs.declared.table.Table.{Table}
use Rattle.ghg_tables.specs.Names.{table_in}
use Rattle.ghg_tables.specs.SoundTexts.{IsSoundText}

-- There is a table of that name, the year is one of the data in force, and the text is sound for both: if the
-- table has bounds of nodes, then wherever the inputs are within their supplied bounds, the exact value of
-- each node is within the bounds that stand in it. This does not say that the text is that of the table:
-- `requested` does.
pub record IsSoundTable (s : State) (name : List ℕ) (year : ℕ) (text : List ℕ) : Type 0 where
  pub table : Table
  pub named : table_in name ≡ Some table
  pub within : is_year_of (span s.content) year ≡ true
  pub sound : IsSoundText table s.content year text

-- the reply is such a table, or that there is none
abbrev pub IsSoundReply : State → List ℕ → ℕ → Reply → Type 0
IsSoundReply s name year (Shown text) = IsSoundTable s name year text
IsSoundReply s name year NoTable = requested s name year ≡ NoTable
IsSoundReply s name year _ = ⊥
