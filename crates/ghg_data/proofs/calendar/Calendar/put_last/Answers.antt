use Rattle.std.proofs.Common.{◌≡◌, ℕ, true, cond, ◌&&◌, ◌==◌, Some, sym, ap, ◌∙◌, subst}
use Rattle.std.specs.Map.{lookup}
use Rattle.std.specs.Option.{option_copied_mut}
use Rattle.indexmap.proofs.CallerLemmas.{updates-with_value_at}
use Rattle.indexmap.specs.IndexMap.{with_value_at}
use Rattle.ghg_data.specs.Calendar.{has_date, holds_year}
use Rattle.ghg_data.specs.Series.{same_series}
use Rattle.ghg_data.specs.declared.year_set.YearSet.{YearSet}
use Rattle.ghg_data.specs.declared.series.Series.{Series}
use Rattle.ghg_units.specs.Year.{is_year}
use Rattle.ghg_data.proofs.Dates.{column_years, had_column, same_value, series_eq_laws, series_equal, still_some, write_has_a_year}
use Rattle.ghg_data.proofs.calendar.Calendar.put_last.Goals as goal

pub invariant_of-self : goal.invariant_of-self
invariant_of-self c =
    let old = c.args.self.now in
    let k = c.in-Some.name.now in
    let z = c.args.year in
    let place = c.saturating_sub-last.result in
    let before = c.in-Some-get_index_mut.years.now in
    let after = c.note.new.self in
    let entry = sym c.in-Some.ensures.entry in
    let same = same_value old.years.entries place k c.in-Some.field-0-1.now before entry (sym c.get_index_mut.ensures.value ∙ ap option_copied_mut c.in-Some-get_index_mut.is) in
    let there = c.in-Some.ensures.value ∙ ap Some same in
    let given = (updates-with_value_at old.years place after series_eq_laws c.get_index_mut.ensures.unique k before (entry ∙ ap (λ (x : YearSet). Some (k, x)) same)).0 in
    record {
      none_empty = write_has_a_year old.years.entries (with_value_at old.years place after).entries k before after given there
          (still_some before after (λ y. is_year z && (y == z)) c.note.ensures (old.none_empty k before (had_column old.years.entries k (Some before) there))) old.none_empty;
    }

pub returns-in-Some-get_index_mut-clause-dates : goal.returns-in-Some-get_index_mut-clause-dates
returns-in-Some-get_index_mut-clause-dates c = λ _.
    let old = c.args.self.now in
    let k = c.in-Some.name.now in
    let z = c.args.year in
    let place = c.saturating_sub-last.result in
    let before = c.in-Some-get_index_mut.years.now in
    let after = c.note.new.self in
    let new = (with_value_at old.years place after).entries in
    let entry = sym c.in-Some.ensures.entry in
    let same = same_value old.years.entries place k c.in-Some.field-0-1.now before entry (sym c.get_index_mut.ensures.value ∙ ap option_copied_mut c.in-Some-get_index_mut.is) in
    let given = (updates-with_value_at old.years place after series_eq_laws c.get_index_mut.ensures.unique k before (entry ∙ ap (λ (x : YearSet). Some (k, x)) same)).0 in
    subst (λ (x : Series). (s : Series) (y : ℕ) → holds_year (lookup (same_series s) new) y ≡ cond (same_series x s) (cond (is_year z && (y == z)) true (has_date old x y)) (has_date old s y))
    (series_equal k c.args.series.now (sym c.eq.ensures ∙ c.if-eq.true))
    (column_years old.years.entries new k before after given (c.in-Some.ensures.value ∙ ap Some same) z true c.note.ensures)
