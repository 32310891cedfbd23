use Rattle.std.proofs.Common.{List, ◌++◌, take}
use Rattle.ghg_definitions.specs.Data.{Name}
use Rattle.ghg_graph.specs.Numbers.{AreNumbers}
use Rattle.ghg_graph.proofs.numbers.add_numbers.Given as goal

abbrev pub invariant-loop-name : goal.invariant-loop-name
invariant-loop-name l = (before : List Name) → AreNumbers l.lines l.fn.numbers.items before → AreNumbers l.lines l.numbers.items (before ++ take l.name-index l.names)
