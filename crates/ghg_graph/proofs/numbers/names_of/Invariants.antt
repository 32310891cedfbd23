use Rattle.std.proofs.Common.{◌≡◌, map, take}
use Rattle.ghg_graph.specs.Numbers.{name_at}
use Rattle.ghg_graph.proofs.numbers.names_of.Given as goal

abbrev pub invariant-loop-number : goal.invariant-loop-number
invariant-loop-number l = l.names.items ≡ map (name_at l.lines) (take l.number-index l.numbers)
