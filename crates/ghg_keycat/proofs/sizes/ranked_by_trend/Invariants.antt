use Rattle.std.proofs.Common.{take}
use Rattle.ghg_keycat.specs.Entries.{IsRanked}
use Rattle.ghg_keycat.specs.Sizes.{trend_size}
use Rattle.ghg_keycat.proofs.sizes.ranked_by_trend.Given as goal

abbrev pub invariant-loop-pair : goal.invariant-loop-pair
invariant-loop-pair l = IsRanked (trend_size l.fn.base l.fn.current) (take l.pair-index l.rows) l.ranked.items
