use Rattle.std.proofs.Common.{◌≡◌, true, drop, map, take}
use Rattle.std.specs.List.{AllByRecursion}
use Rattle.ghg_units.specs.Parameter.{is_parameter}
use Rattle.ghg_definitions.specs.Compilation.{bound_to}
use Rattle.ghg_definitions.specs.Data.{binding}
use Rattle.ghg_definitions.specs.Formulas.{map_operand}
use Rattle.ghg_definitions.specs.Lookups.{given}
use Rattle.ghg_graph.specs.Slots.{slot_of}
use Rattle.ghg_graph.proofs.slots.line_slots.Given as goal

abbrev pub invariant-loop-param : goal.invariant-loop-param
invariant-loop-param g l =
    AllByRecursion (λ q. is_parameter q.name.now ≡ true) (drop l.param-index l.param-items)
    × (l.slots.items ≡ map (λ q. slot_of (map_operand (given (g.R.Records.content l.records)) (bound_to (g.R.Records.content l.records) l.first l.year (binding (g.R.Records.content l.records) l.name q.name.now)))) (take l.param-index l.param-items))
