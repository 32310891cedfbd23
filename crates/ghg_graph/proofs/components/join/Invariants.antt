use Rattle.std.proofs.Common.{length}
use Rattle.ghg_graph.proofs.components.join.Given as goal

abbrev pub decreases-loop-firsts : goal.decreases-loop-firsts
decreases-loop-firsts l = length l.firsts.items
