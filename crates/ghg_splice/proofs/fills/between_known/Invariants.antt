use Rattle.std.proofs.Common.{◌≡◌, ◌++◌, ◌-◌, drop}
use Rattle.ghg_splice.specs.Fills.{gaps}
use Rattle.ghg_splice.specs.Quantities.{quantities}
use Rattle.ghg_splice.proofs.fills.between_known.Given as goal

-- the gaps so far and those that are left are all gaps
abbrev pub invariant-loop-at : goal.invariant-loop-at
invariant-loop-at l = l.fills.items ++ gaps quantities (drop (l.at - 1) l.known) ≡ gaps quantities l.known
