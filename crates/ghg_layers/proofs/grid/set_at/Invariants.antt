use Rattle.std.proofs.Common.{◌≡◌, ℕ, ◌+◌, ◌-◌, get_or, length}
use Rattle.ghg_layers.proofs.grid.set_at.Given as goal

abbrev pub invariant-loop-ranks : goal.invariant-loop-ranks
invariant-loop-ranks l = (z : ℕ) → get_or l.ranks.items z 0 ≡ get_or l.fn.ranks.items z 0

abbrev pub decreases-loop-ranks : goal.decreases-loop-ranks
decreases-loop-ranks l = l.year + 1 - length l.ranks.items
