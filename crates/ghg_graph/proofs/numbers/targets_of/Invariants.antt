use Rattle.std.proofs.Common.{◌≡◌, true, drop, flat_map, take}
use Rattle.std.specs.List.{AllByRecursion}
use Rattle.ghg_units.specs.Parameter.{is_parameter}
use Rattle.ghg_definitions.specs.Data.{binding}
use Rattle.ghg_graph.specs.Numbers.{AreNumbers, taken_in}
use Rattle.ghg_graph.proofs.numbers.targets_of.Given as goal

abbrev pub invariant-loop-param : goal.invariant-loop-param
invariant-loop-param g l =
    AllByRecursion (λ q. is_parameter q.name.now ≡ true) (drop l.param-index l.param-items)
    × AreNumbers l.lines l.targets.items (flat_map (λ q. taken_in l.before (binding (g.R.Records.content l.records) l.line q.name.now)) (take l.param-index l.param-items))
