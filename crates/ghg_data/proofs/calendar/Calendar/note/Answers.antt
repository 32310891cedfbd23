use Rattle.std.proofs.Common.{true, false, cond, ◌&&◌, sym, ap, ◌∙◌}
use Rattle.std.specs.Ordering.{eq_by_cmp}
use Rattle.ghg_definitions.specs.Data.{key_cmp}
use Rattle.ghg_data.specs.Calendar.{has_date}
use Rattle.ghg_data.specs.Series.{dated}
use Rattle.ghg_units.specs.Year.{is_year}
use Rattle.ghg_data.proofs.Dates.{noted}
use Rattle.ghg_data.proofs.calendar.Calendar.note.Goals as goal

pub returns-then-present-clause-dates : goal.returns-then-present-clause-dates
returns-then-present-clause-dates c = λ s y.
    let old = c.args.self.now in
    let key = c.args.key.now in
    c.put.ensures.dates s y
    ∙ noted old key true c.in-Some.series c.in-Some.year (sym c.date_of.ensures ∙ c.in-Some.is) s y
    ∙ ap (λ b. cond (is_year y && eq_by_cmp key_cmp (dated s y) key) b (has_date old s y)) (sym c.if-present.true)

pub returns-else-present-clause-dates : goal.returns-else-present-clause-dates
returns-else-present-clause-dates c = λ s y.
    let old = c.args.self.now in
    let key = c.args.key.now in
    c.take.ensures.dates s y
    ∙ noted old key false c.in-Some.series c.in-Some.year (sym c.date_of.ensures ∙ c.in-Some.is) s y
    ∙ ap (λ b. cond (is_year y && eq_by_cmp key_cmp (dated s y) key) b (has_date old s y)) (sym c.if-present.false)
