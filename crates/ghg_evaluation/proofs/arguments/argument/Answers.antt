use Rattle.std.proofs.Common.{subst}
use Rattle.std.proofs.lemmas.List.{length-map}
use Rattle.ghg_graph.specs.declared.operands.Operand.{Operand}
use Rattle.ghg_graph.specs.Operands.{operand_of}
use Rattle.ghg_evaluation.specs.Arguments.{IsShort}
use Rattle.ghg_evaluation.proofs.arguments.argument.Goals as goal

pub sum_of-requires : goal.sum_of-requires
sum_of-requires c = rw length-map at (subst (λ (o : Operand). IsShort (operand_of o)) c.in-Sum.is c.requires)
