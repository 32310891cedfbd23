use Rattle.std.proofs.Common.{take}
use Rattle.ghg_graph.specs.Dependencies.{IsGathered}
use Rattle.ghg_graph.proofs.dependencies.Gathered.add.Given as goal

abbrev pub invariant-loop-name : goal.invariant-loop-name
invariant-loop-name l = IsGathered (take l.name-index l.names) l.fn.self l.self
