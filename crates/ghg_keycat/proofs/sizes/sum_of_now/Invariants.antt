use Rattle.std.proofs.Common.{◌≡◌, ◌≤◌, take, unsigned_abs}
use Rattle.std.specs.List.{sum_by}
use Rattle.ghg_keycat.specs.Sizes.{gross, now_sum}
use Rattle.ghg_keycat.proofs.sizes.sum_of_now.Given as goal

abbrev pub invariant-loop-pair : goal.invariant-loop-pair
invariant-loop-pair l = (l.sum ≡ now_sum (take l.pair-index l.rows)) × (unsigned_abs l.sum ≤ sum_by gross (take l.pair-index l.rows))
