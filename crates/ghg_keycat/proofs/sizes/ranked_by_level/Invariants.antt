use Rattle.std.proofs.Common.{take}
use Rattle.ghg_keycat.specs.Entries.{IsRanked}
use Rattle.ghg_keycat.specs.Sizes.{level_size}
use Rattle.ghg_keycat.proofs.sizes.ranked_by_level.Given as goal

abbrev pub invariant-loop-pair : goal.invariant-loop-pair
invariant-loop-pair l = IsRanked level_size (take l.pair-index l.rows) l.ranked.items
