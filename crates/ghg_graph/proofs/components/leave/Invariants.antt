use Rattle.std.proofs.Common.{length}
use Rattle.ghg_graph.proofs.components.leave.Given as goal

abbrev pub decreases-loop-open : goal.decreases-loop-open
decreases-loop-open l = length l.survey.open.items
