use Rattle.std.proofs.Common.{◌≡◌, ◌*◌, ◌≤◌, take, unsigned_abs}
use Rattle.ghg_uncertainty.specs.Totals.{amount_limit, net}
use Rattle.ghg_uncertainty.proofs.net.Given as goal

abbrev pub invariant-loop-row : goal.invariant-loop-row
invariant-loop-row l = (l.sum ≡ net (take l.row-index l.rows)) × (unsigned_abs l.sum ≤ l.row-index * amount_limit)
