use Rattle.std.proofs.Common.{◌≡◌, ◌≤◌, is_some, length}
use Rattle.std.specs.FinMap.{from_entries, get}
use Rattle.indexmap.specs.IndexMap.{spare}
use Rattle.ghg_definitions.specs.Data.{key_cmp}
use Rattle.ghg_data.specs.Calendar.{IsCalendarOf}
use Rattle.ghg_data.specs.Changes.{applied}
use Rattle.ghg_data.proofs.holdings.change_records.Given as goal

abbrev pub invariant-loop-key : goal.invariant-loop-key
invariant-loop-key l = record {
  records_room : length l.changes.entries ≤ spare l.records;
  years_room : length l.changes.entries ≤ spare l.calendar.years;
  years : IsCalendarOf (λ k. is_some (get {R = key_cmp} (from_entries l.records.entries) k)) l.calendar;
  content : applied (from_entries l.records.entries) l.changes.entries ≡ applied (from_entries l.fn.records.entries) l.fn.changes.entries;
}

abbrev pub decreases-loop-key : goal.decreases-loop-key
decreases-loop-key l = length l.changes.entries
