use Rattle.std.proofs.Common.{true, take}
use Rattle.ghg_columns.specs.Overlays.{outcomes_of}
use Rattle.ghg_evaluation.specs.Arguments.{AreParts, lines_in}
use Rattle.ghg_evaluation.proofs.arguments.gather_lines.Given as goal

abbrev pub invariant-loop-name : goal.invariant-loop-name
invariant-loop-name l = AreParts (outcomes_of l.cells) (lines_in (take l.name-index l.names) l.year) l.parts.items true
