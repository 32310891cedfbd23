use Rattle.std.proofs.Common.{◌<◌, length}
use Rattle.ghg_graph.proofs.Searching.{IsWayFrom}
use Rattle.ghg_graph.proofs.search.way.Given as goal

abbrev pub invariant-loop-place : goal.invariant-loop-place
invariant-loop-place l = (l.place < length l.lines) × IsWayFrom l.lines l.led_by l.end l.place l.way.items

abbrev pub decreases-loop-place : goal.decreases-loop-place
decreases-loop-place l = l.place
