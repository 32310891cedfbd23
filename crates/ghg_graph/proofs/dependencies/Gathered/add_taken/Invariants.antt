use Rattle.std.proofs.Common.{◌≡◌, true, drop, flat_map, take}
use Rattle.std.specs.List.{AllByRecursion}
use Rattle.ghg_units.specs.Parameter.{is_parameter}
use Rattle.ghg_definitions.specs.Data.{binding}
use Rattle.ghg_definitions.specs.Rings.{taken_by}
use Rattle.ghg_graph.specs.Dependencies.{IsGathered}
use Rattle.ghg_graph.proofs.dependencies.Gathered.add_taken.Given as goal

abbrev pub invariant-loop-param : goal.invariant-loop-param
invariant-loop-param g l =
    record {
      named : AllByRecursion (λ q. is_parameter q.name.now ≡ true) (drop l.param-index l.param-items);
      gathered : IsGathered (flat_map (λ q. taken_by (binding (g.R.Records.content l.records) l.line q.name.now)) (take l.param-index l.param-items)) l.fn.self l.self;
    }
