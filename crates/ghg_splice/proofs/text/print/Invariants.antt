use Rattle.std.proofs.Common.{◌≡◌, Ok, drop}
use Rattle.ghg_splice.specs.Refusals.{joined}
use Rattle.ghg_splice.specs.Texts.{lines_in, printed_in}
use Rattle.ghg_splice.proofs.text.print.Given as goal

-- the lines so far and those that are left are all lines
abbrev pub invariant-loop-fill : goal.invariant-loop-fill
invariant-loop-fill l = joined (Ok l.out.items) (lines_in l.heading (drop l.fill-index l.fills)) ≡ printed_in l.heading l.fills
