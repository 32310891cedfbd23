use Rattle.std.proofs.Common.{false, true≢false, cond, ◌&&◌, ◌==◌, Some, None, is_some, refl, sym, ap, ◌∙◌}
use Rattle.std.specs.Option.{option_copied_mut}
use Rattle.ghg_data.specs.Calendar.{has_date, holds_year}
use Rattle.ghg_units.specs.Year.{is_year}
use Rattle.ghg_data.proofs.Dates.{column_years, each_has_a_year, given_years, had_column, nothing_given, taken_out, write_has_a_year}
use Rattle.ghg_data.proofs.calendar.Calendar.take.Goals as goal

pub returns-then-is_empty-2-clause-dates : goal.returns-then-is_empty-2-clause-dates
returns-then-is_empty-2-clause-dates c =
    let old = c.args.self.now in
    let k = c.args.series.now in
    let z = c.args.year in
    let before = c.in-Some.years.now in
    let after = c.note.new.self in
    let there = sym c.get_mut.ensures.value ∙ ap option_copied_mut c.in-Some.is in
    let kept = ((c.get_mut.follows.holds after).3 (ap is_some there)).0 in
    let gone = taken_out old.years.entries (c.get_mut.follows.lender after).entries c.swap_remove.new.self.entries k after kept c.swap_remove.ensures.updates.0 in
    given_years old.years.entries c.swap_remove.new.self.entries k None gone (λ y. cond (is_year z && (y == z)) false (has_date old k y))
    (λ y. sym (c.if-is_empty-2.ensures.0 refl y) ∙ c.note.ensures y ∙ ap (λ o. cond (is_year z && (y == z)) false (holds_year o y)) (sym (had_column old.years.entries k (Some before) there)))

pub returns-else-is_empty-2-clause-dates : goal.returns-else-is_empty-2-clause-dates
returns-else-is_empty-2-clause-dates c =
    let old = c.args.self.now in
    let after = c.note.new.self in
    let there = sym c.get_mut.ensures.value ∙ ap option_copied_mut c.in-Some.is in
    column_years old.years.entries (c.get_mut.follows.lender after).entries c.args.series.now c.in-Some.years.now after ((c.get_mut.follows.holds after).3 (ap is_some there)).0 there c.args.year false c.note.ensures

pub invariant_of-self : goal.invariant_of-self
invariant_of-self c =
    let old = c.args.self.now in
    let k = c.args.series.now in
    let after = c.note.new.self in
    let there = sym c.get_mut.ensures.value ∙ ap option_copied_mut c.in-Some.is in
    let kept = ((c.get_mut.follows.holds after).3 (ap is_some there)).0 in
    let gone = taken_out old.years.entries (c.get_mut.follows.lender after).entries c.swap_remove.new.self.entries k after kept c.swap_remove.ensures.updates.0 in
    record {
      none_empty = each_has_a_year old.years.entries c.swap_remove.new.self.entries k None gone nothing_given old.none_empty;
    }

pub invariant_of-self-else-is_empty-2 : goal.invariant_of-self-else-is_empty-2
invariant_of-self-else-is_empty-2 c =
    let old = c.args.self.now in
    let k = c.args.series.now in
    let after = c.note.new.self in
    let there = sym c.get_mut.ensures.value ∙ ap option_copied_mut c.in-Some.is in
    let given = ((c.get_mut.follows.holds after).3 (ap is_some there)).0 in
    record {
      none_empty = write_has_a_year old.years.entries (c.get_mut.follows.lender after).entries k c.in-Some.years.now after given there
          (λ h. absurd (true≢false (sym (c.if-is_empty-2.ensures.1 h)))) old.none_empty;
    }
