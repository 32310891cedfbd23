use Rattle.std.proofs.Common.{◌≡◌, ◌≤◌, take}
use Rattle.std.specs.List.{sum_by}
use Rattle.ghg_keycat.specs.Sizes.{gross, base_size}
use Rattle.ghg_keycat.proofs.sizes.size_of_base.Given as goal

abbrev pub invariant-loop-pair : goal.invariant-loop-pair
invariant-loop-pair l = (l.sum ≡ base_size (take l.pair-index l.rows)) × (l.sum ≤ sum_by gross (take l.pair-index l.rows))
