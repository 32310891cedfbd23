use Rattle.std.proofs.Common.{◌≡◌, ◌*◌, ◌≤◌, take}
use Rattle.std.specs.List.{sum_by}
use Rattle.ghg_trendunc.specs.Ends.{low_square, largest_square}
use Rattle.ghg_trendunc.proofs.totals.low_squares.Given as goal

abbrev pub invariant-loop-row : goal.invariant-loop-row
invariant-loop-row l = (l.sum ≡ sum_by low_square (take l.row-index l.rows)) × (l.sum ≤ l.row-index * largest_square)
