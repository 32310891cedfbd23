-- Cells of lines that edits withdraw.
use Rattle.std.specs.Prelude.{Bool, false, not, ◌&&◌, if◌then◌else◌, is_some, List, None}
use Rattle.ghg_units.specs.declared.node.Node.{Node}
use Rattle.ghg_units.specs.declared.node.Node.TheVariants as node
use Rattle.ghg_definitions.specs.declared.record.RecordKey.{RecordKey}
use Rattle.ghg_definitions.specs.Compilation.{emits}
use Rattle.ghg_definitions.specs.Data.{Data, line}
use Rattle.ghg_definitions.specs.Trials.{Outcomes}
use Rattle.ghg_shifts.specs.Progress.{is_edited}

-- the node is of a line that is edited, and that is no line of the data or, for an equivalent, emits no gas
abbrev pub is_withdrawn : Data → List RecordKey → Node → Bool
is_withdrawn m keys (node.Line name year) = is_edited keys name && not (is_some (line m name))
is_withdrawn m keys (node.Equiv name year) = is_edited keys name && not (emits m name)
is_withdrawn m keys (node.Total top year) = false
is_withdrawn m keys (node.Gross year) = false

-- the outcomes but those of withdrawn nodes
abbrev pub without_withdrawn : Data → List RecordKey → Outcomes → Outcomes
without_withdrawn m keys outcomes n = if is_withdrawn m keys n then None else outcomes n
