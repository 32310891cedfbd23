use Rattle.std.proofs.Common.{take}
use Rattle.ghg_columns.specs.Overlays.{outcomes_of}
use Rattle.ghg_evaluation.specs.Arguments.{IsHeld, operand_outcomes, operands_by}
use Rattle.ghg_evaluation.specs.Kept.{AreKeptFactors, copied}
use Rattle.ghg_evaluation.proofs.arguments.Arguments.gather.Given as goal

abbrev pub invariant-loop-binding : goal.invariant-loop-binding
invariant-loop-binding g l = IsHeld (operand_outcomes (outcomes_of l.cells) (operands_by (g.R.Records.content l.records) l.year (copied (take l.binding-index l.bindings)))) l.self
    × AreKeptFactors (g.R.Records.content l.records) l.self.factors
