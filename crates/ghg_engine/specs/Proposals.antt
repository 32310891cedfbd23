-- What is proposed, and what is not.
use Rattle.std.specs.Prelude.{◌≡◌, ⊤, ℕ, List, length, Some}
use Rattle.ghg_columns.specs.Cells.{found_in}
use Rattle.ghg_columns.specs.Fresh.{HasRoomFor, NoneOver, fresh_at}
use Rattle.ghg_columns.specs.declared.fresh.FreshCells.{FreshCells}
use Rattle.ghg_definitions.specs.Compilation.{compilation, overflow}
use Rattle.ghg_definitions.specs.Data.{Data}
use Rattle.ghg_definitions.specs.Rings.{IsAcyclic}
use Rattle.ghg_data.specs.Changes.{Change, applied}
use Rattle.ghg_data.specs.Shelf.{IsPlanned}
use Rattle.ghg_affected.specs.Affected.{affected_nodes}
use Rattle.ghg_search.specs.Index.{HasUsers}
use Rattle.ghg_engine.specs.Compiled.{IsCompiled}
use Rattle.ghg_engine.specs.Views.{EngineView, shelf_of}
use Rattle.ghg_engine.specs.declared.proposal.Proposal.{Proposal}
use Rattle.ghg_engine.specs.declared.refusal.EngineRefusal.{EngineRefusal}
use Rattle.ghg_engine.specs.declared.refusal.EngineRefusal.TheVariants as refusal

-- how many nodes edits affect
abbrev pub affected_count : Data → List Change → ℕ
affected_count m edits = length (affected_nodes m (applied m edits))

-- the edits were planned on the book as it stands, and leave no ring
pub record IsArranged (engine : EngineView) (edits : List Change) : Type 0 where
  pub planned : IsPlanned (shelf_of engine) edits
  pub acyclic : IsAcyclic (applied engine.content edits)

-- over the compilation of the old data the cells are the compilation of the new, and none of them is over
pub record IsFresh (old new : Data) (fresh : FreshCells) : Type 0 where
  pub compiled : IsCompiled new (found_in (fresh_at fresh) (compilation old))
  pub none_over : NoneOver (fresh_at fresh)

-- The proposal was made on the engine as it stands: its edits are planned, its cells are fresh, and the
-- engine has room for them and an index for the edits. `propose` alone gives it.
pub record IsMadeOn (engine : EngineView) (proposal : Proposal) : Type 0 where
  pub planned : IsPlanned (shelf_of engine) proposal.edits
  pub fresh : IsFresh engine.content (applied engine.content proposal.edits) proposal.fresh
  pub room : HasRoomFor engine.cells proposal.fresh
  pub users : HasUsers (applied engine.content proposal.edits) engine.index

-- the proposal has the edits and the number of nodes that they affect, and was made on the engine as it
-- stands
pub record Proposes (engine : EngineView) (edits : List Change) (proposal : Proposal) : Type 0 where
  pub edits_are : proposal.edits ≡ edits
  pub count_is : proposal.cells ≡ affected_count engine.content edits
  pub made : IsMadeOn engine proposal

-- the node is the overflow of the data, if the refusal has one
abbrev pub NamesOverflow : Data → EngineRefusal → Type 0
NamesOverflow m (refusal.Overflow n) = overflow m ≡ Some n
NamesOverflow m refusal.Memory = ⊤
