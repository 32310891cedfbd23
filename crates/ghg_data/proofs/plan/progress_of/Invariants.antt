use Rattle.std.proofs.Common.{◌≡◌, ◌+◌, ◌^◌, ◌<◌, ◌≤◌, drop, map, length}
use Rattle.std.specs.FinMap.{len}
use Rattle.std.specs.List.{AllByRecursion}
use Rattle.ghg_units.specs.declared.row.Row.{Row}
use Rattle.ghg_units.specs.WellFormed.{IsWellFormed}
use Rattle.ghg_definitions.specs.declared.record.RecordKey.{RecordKey}
use Rattle.ghg_definitions.specs.Listed.{IsListed}
use Rattle.ghg_definitions.specs.Rows.{key_of}
use Rattle.ghg_definitions.specs.Rules.{rows_applied}
use Rattle.ghg_definitions.specs.Sound.{IsConsistent}
use Rattle.ghg_data.specs.Changes.{IsChanged, applied}
use Rattle.ghg_data.proofs.plan.progress_of.Given as goal

abbrev pub invariant-loop-row : goal.invariant-loop-row
invariant-loop-row l =
    IsConsistent (applied l.holdings.content l.progress.edits)
    × (l.progress.records ≡ len (applied l.holdings.content l.progress.edits))
    × (l.progress.records < 2 ^ 63 + l.row-index)
    × AllByRecursion IsWellFormed (drop l.row-index l.rows)
    × (rows_applied l.holdings.content l.rows ≡ rows_applied (applied l.holdings.content l.progress.edits) (drop l.row-index l.rows))
    × (length l.progress.edits ≤ l.row-index)
    × ((k : RecordKey) → IsChanged k l.progress.edits → IsListed k (map (λ (row : Row). key_of row.form) l.rows))
