use Rattle.std.proofs.Common.{◌≡◌, ℕ, [], get_or, length, map}
use Rattle.ghg_layers.proofs.grid.Grid.new.Given as goal

abbrev pub invariant-loop : goal.invariant-loop
invariant-loop l = record {
  count : length l.rows.items ≡ l.counter;
  none : (row : ℕ) → get_or (map (λ r. r.items) l.rows.items) row [] ≡ [];
}
