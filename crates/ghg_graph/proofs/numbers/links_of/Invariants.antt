use Rattle.std.proofs.Common.{◌≡◌, ℕ, ◌<◌, length, map}
use Rattle.ghg_graph.specs.Links.{targets_of}
use Rattle.ghg_graph.specs.Numbers.{AreNumbers, lines_taken, name_at}
use Rattle.ghg_graph.proofs.numbers.links_of.Given as goal

abbrev pub invariant-loop-line : goal.invariant-loop-line
invariant-loop-line g l =
    (length l.targets.items ≡ l.line-index)
    × ((k : ℕ) → k < l.line-index → AreNumbers l.lines (targets_of (map (λ targets. targets.items) l.targets.items) k) (lines_taken l.before (g.R.Records.content l.records) (name_at l.lines k)))
