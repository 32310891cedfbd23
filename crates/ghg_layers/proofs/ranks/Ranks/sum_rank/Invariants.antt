use Rattle.std.proofs.Common.{◌≡◌, filter, map, take}
use Rattle.ghg_graph.specs.Slots.{is_within}
use Rattle.ghg_layers.specs.Ranks.{greatest, own_rank}
use Rattle.ghg_layers.proofs.ranks.Ranks.sum_rank.Given as goal

abbrev pub invariant-loop-category : goal.invariant-loop-category
invariant-loop-category l = l.last ≡ greatest (map (λ c. own_rank l.self c l.year) (filter (is_within l.scope) (take l.category-index l.category-items)))
