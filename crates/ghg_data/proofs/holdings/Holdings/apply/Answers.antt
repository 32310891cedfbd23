use Rattle.std.proofs.Common.{◌≤◌, ◌∙◌, ℕ, length, min, sym, ap, subst, arith}
use Rattle.std.specs.FinMap.{from_entries}
use Rattle.indexmap.specs.IndexMap.{spare}
use Rattle.ghg_definitions.specs.Data.{Data, line_names}
use Rattle.ghg_data.specs.Changes.{applied}
use Rattle.ghg_data.proofs.holdings.Holdings.apply.Goals as goal

fits_each : (n a b d : ℕ) → n ≤ min a (min b d) → (n ≤ a) × (n ≤ d)
fits_each n a b d h = (omega (arith, h), omega (arith, h))

pub change_records-requires-clause-room : goal.change_records-requires-clause-room
change_records-requires-clause-room c =
    let fits = subst (λ s. length c.args.edits ≤ s.spare) (sym c.self.view_is) c.requires in
    subst (λ n. n ≤ spare c.self.inside.records) (sym (ap length c.into_changes.ensures))
    (fits_each (length c.args.edits) _ _ (spare c.self.inside.calendar.years) fits).0

pub change_records-requires-clause-years_room : goal.change_records-requires-clause-years_room
change_records-requires-clause-years_room c =
    let fits = subst (λ s. length c.args.edits ≤ s.spare) (sym c.self.view_is) c.requires in
    subst (λ n. n ≤ spare c.self.inside.calendar.years) (sym (ap length c.into_changes.ensures))
    (fits_each (length c.args.edits) _ _ (spare c.self.inside.calendar.years) fits).1

pub invariant_of-self : goal.invariant_of-self
invariant_of-self c =
    let m : Data = from_entries c.self.inside.records.entries in (
      c.change_names.ensures.items m c.self.invariant.0
          ∙ sym (ap line_names (c.change_records.ensures.content ∙ ap (applied m) c.into_changes.ensures)),
      c.change_records.ensures.years,
    )
