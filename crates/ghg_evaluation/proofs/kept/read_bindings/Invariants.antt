use Rattle.std.proofs.Common.{◌≡◌, map, take}
use Rattle.ghg_definitions.specs.Data.{binding}
use Rattle.ghg_evaluation.specs.Kept.{copied}
use Rattle.ghg_evaluation.proofs.kept.read_bindings.Given as goal

abbrev pub invariant-loop-param : goal.invariant-loop-param
invariant-loop-param g l = copied l.bindings.items ≡ map (λ p. binding (g.R.Records.content l.records) l.name p.name.now) (take l.param-index l.params)
