use Rattle.std.proofs.Common.{◌≡◌, ◌*◌, ◌≤◌, take}
use Rattle.ghg_uncertainty.specs.Totals.{largest_variance, spread}
use Rattle.ghg_uncertainty.proofs.spread.Given as goal

abbrev pub invariant-loop-row : goal.invariant-loop-row
invariant-loop-row l = (l.sum ≡ spread (take l.row-index l.rows)) × (l.sum ≤ l.row-index * largest_variance)
