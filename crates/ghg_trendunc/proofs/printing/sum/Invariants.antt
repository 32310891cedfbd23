use Rattle.std.proofs.Common.{◌≡◌, ◌*◌, ◌≤◌, take, unsigned_abs}
use Rattle.ghg_definitions.specs.Compilation.{compilation}
use Rattle.ghg_uncertainty.specs.Totals.{amount_limit}
use Rattle.ghg_trendunc.specs.Table.{sum_of}
use Rattle.ghg_trendunc.proofs.printing.sum.Given as goal

abbrev pub invariant-loop-name : goal.invariant-loop-name
invariant-loop-name g l =
    (l.sum ≡ sum_of (compilation (g.C.Cells.content l.cells)) l.year (take l.name-index l.lines))
    × (unsigned_abs l.sum ≤ l.name-index * amount_limit)
