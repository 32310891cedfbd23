use Rattle.std.proofs.Common.{◌≡◌, take}
use Rattle.ghg_columns.specs.Cells.{cell_at}
use Rattle.ghg_engine.specs.Withdrawn.{without_withdrawn}
use Rattle.ghg_engine.proofs.withdrawn.drop_withdrawn.Given as goal

abbrev pub invariant-loop-key : goal.invariant-loop-key
invariant-loop-key g l = cell_at l.cells ≡ without_withdrawn (g.R.Records.content l.records) (take l.key-index l.keys) (cell_at l.initial.cells)
