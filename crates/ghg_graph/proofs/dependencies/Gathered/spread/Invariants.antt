use Rattle.std.proofs.Common.{◌-◌, length}
use Rattle.ghg_definitions.specs.Data.{line_names}
use Rattle.ghg_graph.proofs.Depending.{IsSpreadTo}
use Rattle.ghg_graph.proofs.dependencies.Gathered.spread.Given as goal

abbrev pub invariant-loop-next : goal.invariant-loop-next
invariant-loop-next g l = IsSpreadTo (g.R.Records.content l.records) l.fn.self l.next l.self

abbrev pub decreases-loop-next : goal.decreases-loop-next
decreases-loop-next g l = length (line_names (g.R.Records.content l.records)) - l.next
