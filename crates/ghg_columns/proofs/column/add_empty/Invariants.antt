use Rattle.std.proofs.Common.{◌≡◌, ℕ, ◌+◌, get_or, length, None}
use Rattle.ghg_columns.proofs.column.add_empty.Given as goal

abbrev pub invariant-loop : goal.invariant-loop
invariant-loop l =
    ((i : ℕ) → get_or l.slots.items i None ≡ get_or l.fn.slots.items i None)
    × (length l.slots.items ≡ length l.fn.slots.items + l.counter)
