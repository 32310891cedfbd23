use Rattle.std.proofs.Common.{take}
use Rattle.ghg_tables.proofs.ByPair.{IsGroupedSoFar}
use Rattle.ghg_tables.proofs.groups.Groups.of.Given as goal

abbrev pub invariant-loop-name : goal.invariant-loop-name
invariant-loop-name g l = IsGroupedSoFar (g.C.Cells.content l.cells) (take l.name-index l.name-items) l.groups
