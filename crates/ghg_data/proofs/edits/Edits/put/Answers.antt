use Rattle.std.proofs.Common.{cond, ◌&&◌, ◌∙◌, ap}
use Rattle.std.specs.Ordering.{eq_by_cmp}
use Rattle.ghg_definitions.specs.Data.{key_cmp}
use Rattle.ghg_definitions.specs.Rows.{with_record}
use Rattle.ghg_data.specs.Calendar.{has_date}
use Rattle.ghg_data.specs.Series.{dated}
use Rattle.ghg_data.specs.Changes.{applied}
use Rattle.ghg_units.specs.Year.{is_year}
use Rattle.ghg_data.proofs.Applied.{applied-put, on_ok}
use Rattle.ghg_data.proofs.Changed.{also_put}
use Rattle.ghg_data.proofs.Calendars.{changed_at, opposite, put_noted, taken_noted}
use Rattle.ghg_data.proofs.edits.Edits.put.Goals as goal

pub invariant_of-self-2 : goal.invariant_of-self-2
invariant_of-self-2 c =
    let updates = on_ok c.insert.result c.unwrap.result _ c.unwrap.ensures c.insert.ensures.updates in
    let before = c.self.inside.changes.entries in
    let after = c.insert.new.self.entries in
    let key = c.args.key in
    let put = c.reserve-2.new.self in
    let taken = c.reserve-3.new.self in
    let changed = changed_at before c.reserve.new.self.entries after key c.args.change c.reserve.ensures.entries updates.0 in (
      put_noted before after key c.args.change put c.note.new.self changed (λ s y. c.reserve-2.ensures.dates s y ∙ c.self.invariant.0 s y)
          (λ s y. c.note.ensures.dates s y ∙ ap (λ b. cond (is_year y && eq_by_cmp key_cmp (dated s y) key) b (has_date put s y)) c.is_some.ensures),
      taken_noted before after key c.args.change taken c.note-2.new.self changed (λ s y. c.reserve-3.ensures.dates s y ∙ c.self.invariant.1 s y)
          (λ s y. c.note-2.ensures.dates s y ∙ ap (λ b. cond (is_year y && eq_by_cmp key_cmp (dated s y) key) b (has_date taken s y)) (opposite _ _ c.is_none.ensures)),
    )

pub returns-clause-ok : goal.returns-clause-ok
returns-clause-ok c =
    let updates = on_ok c.insert.result c.unwrap.result _ c.unwrap.ensures c.insert.ensures.updates in
    λ m. applied-put m c.reserve.new.self.entries c.insert.new.self.entries c.args.key c.args.change updates.0
    ∙ ap (λ cs. with_record (applied m cs) c.args.key c.args.change) (c.reserve.ensures.entries ∙ c.self.view_is)

pub returns-clause-keys : goal.returns-clause-keys
returns-clause-keys c =
    let put = on_ok c.insert.result c.unwrap.result _ c.unwrap.ensures c.insert.ensures.entries in
    also_put c.args.key c.args.change _ _ _ (c.reserve.ensures.entries ∙ c.self.view_is) put
