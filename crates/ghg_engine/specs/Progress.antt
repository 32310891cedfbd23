-- How far the evaluation of nodes has come.
use Rattle.std.specs.Prelude.{ℕ, List, take, drop}
use Rattle.ghg_units.specs.declared.node.Node.{Node}
use Rattle.ghg_columns.specs.Fresh.{fresh_at}
use Rattle.ghg_columns.specs.Overlays.{outcomes_of}
use Rattle.ghg_definitions.specs.declared.record.RecordKey.{RecordKey}
use Rattle.ghg_definitions.specs.Data.{Data}
use Rattle.ghg_engine.specs.declared.progress.Progress.{Progress}
use Rattle.ghg_engine.specs.Evaluation.{IsSoFar}
use Rattle.ghg_engine.specs.Notes.{AreNotes}

-- the first of the nodes, so many, are evaluated and noted
pub record HasCome (old new : Data) (keys : List RecordKey) (nodes : List Node) (count : ℕ) (p : Progress)
    : Type 0 where
  pub cells : IsSoFar new (take count nodes) (drop count nodes) (outcomes_of p.cells) (fresh_at p.cells.fresh)
      p.least
  pub notes : AreNotes old new keys nodes (take count nodes) p.notes
