use Rattle.std.proofs.Common.{arith}
use Rattle.std.proofs.lemmas.List.{length-map}
use Rattle.ghg_tests.proofs.equations.evaluated.Goals as goal

pub evaluate-requires : goal.evaluate-requires
evaluate-requires c = rw (← c.params_of.ensures.table, length-map) (omega arith)
