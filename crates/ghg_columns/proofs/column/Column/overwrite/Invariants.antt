use Rattle.std.proofs.Common.{◌≡◌, ◌≤◌, ℕ, length}
use Rattle.std.specs.Option.{option_or}
use Rattle.ghg_columns.specs.Columns.{value_in}
use Rattle.ghg_columns.proofs.Slots.{value_from}
use Rattle.ghg_columns.proofs.column.Column.overwrite.Given as goal

abbrev pub invariant-loop-slot : goal.invariant-loop-slot
invariant-loop-slot l =
    (l.self.first ≡ l.fn.self.first)
    × (length l.self.slots.items ≡ length l.fn.self.slots.items)
    × (length l.slots.items ≤ length l.fn.fresh.slots.items)
    × ((y : ℕ) → option_or (value_from l.fn.fresh.first l.slots.items y) (value_in l.self y) ≡ option_or (value_in l.fn.fresh y) (value_in l.fn.self y))

abbrev pub decreases-loop-slot : goal.decreases-loop-slot
decreases-loop-slot l = length l.slots.items
