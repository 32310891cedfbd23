use Rattle.std.proofs.Common.{◌≡◌, List, ◌&&◌, is_some, refl, sym, ap, ◌∙◌}
use Rattle.std.specs.FinMap.{from_entries, get}
use Rattle.std.specs.Map.{lookup}
use Rattle.ghg_definitions.specs.declared.record.Record.{Record}
use Rattle.ghg_definitions.specs.declared.record.RecordKey.{RecordKey}
use Rattle.ghg_definitions.specs.Data.{Name, key_cmp, line_names}
use Rattle.ghg_units.specs.Year.{is_year}
use Rattle.ghg_data.specs.declared.calendar.Calendar.{Calendar}
use Rattle.ghg_data.specs.Calendar.{HasSameDates, IsCalendarOf, holds_year}
use Rattle.ghg_data.specs.Series.{dated, same_series}
use Rattle.ghg_data.proofs.holdings.Holdings.reserve.Goals as goal

-- what a book keeps of its entries is right of them with more room
module _ (es fs : List (RecordKey × Record)) (same : es ≡ fs) (lines more : List Name) (old new : Calendar)
    (were : (lines ≡ line_names (from_entries {R = key_cmp} es)) × IsCalendarOf (λ k. is_some (get {R = key_cmp} (from_entries es) k)) old) where
  kept : more ≡ lines → HasSameDates old new → (more ≡ line_names (from_entries {R = key_cmp} fs)) × IsCalendarOf (λ k. is_some (get {R = key_cmp} (from_entries fs) k)) new
  kept items dates = (
    items ∙ were.0 ∙ ap (λ xs. line_names (from_entries {R = key_cmp} xs)) same,
    λ s y. dates s y ∙ were.1 s y ∙ ap (λ xs. is_year y && is_some (get (from_entries {R = key_cmp} xs) (dated s y))) same,
  )

pub invariant_of-self : goal.invariant_of-self
invariant_of-self c =
    let old = c.self.inside in
    kept old.records.entries _ (sym c.reserve.ensures.entries) old.lines.items _ old.calendar old.calendar c.self.invariant refl (λ s y. refl)

pub invariant_of-self-in_err-reserve-2 : goal.invariant_of-self-in_err-reserve-2
invariant_of-self-in_err-reserve-2 c =
    let old = c.self.inside in
    kept old.records.entries _ (sym c.reserve.ensures.entries) old.lines.items _ old.calendar old.calendar c.self.invariant c.reserve-2.ensures.items (λ s y. refl)

pub invariant_of-self-2 : goal.invariant_of-self-2
invariant_of-self-2 c =
    let old = c.self.inside in
    kept old.records.entries _ (sym c.reserve.ensures.entries) old.lines.items _ old.calendar c.reserve_slots.new.self c.self.invariant c.reserve-2.ensures.items
    (λ s y. ap (λ m. holds_year (lookup (same_series s) m.entries) y) (c.reserve_slots.ensures ∙ c.make_slots.ensures) ∙ c.reserve-3.ensures.dates s y)
