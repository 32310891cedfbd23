use Rattle.std.proofs.Common.{◌<◌, Result, Ok, Err, OnOk, true, true≢false, cond, ◌&&◌, ◌==◌, Some, None, is_some, refl, sym, ap, ◌∙◌, subst}
use Rattle.std.specs.Map.{lookup}
use Rattle.std.specs.Option.{option_copied_mut}
use Rattle.std.specs.Result.{IsOk}
use Rattle.indexmap.specs.IndexMap.{spare}
use Rattle.ghg_data.specs.Calendar.{has_date, holds_year}
use Rattle.ghg_data.specs.Series.{EachHasAYear, same_series}
use Rattle.ghg_units.specs.Year.{is_year}
use Rattle.ghg_data.proofs.Applied.{on_ok}
use Rattle.ghg_data.proofs.Dates.{column_given, column_years, each_has_a_year, given_years, had_column, no_year, series_eq, still_some, write_has_a_year}
use Rattle.ghg_data.proofs.calendar.Calendar.put_any.Goals as goal

where_ok : {T E : Type 0} (r : Result T E) (P : Type 0) → IsOk r → OnOk r P → P
where_ok (Ok x) P ok h = h
where_ok (Err x) P ok h = absurd (cc)

pub invariant_of-self : goal.invariant_of-self
invariant_of-self c =
    let old = c.args.self.now in
    let k = c.args.series in
    let z = c.args.year in
    let before = c.in-Some.years.now in
    let after = c.note.new.self in
    let there = sym c.get_mut.ensures.value ∙ ap option_copied_mut c.in-Some.is in
    let given = ((c.get_mut.follows.holds after).3 (ap is_some there)).0 in
    record {
      none_empty = write_has_a_year old.years.entries (c.get_mut.follows.lender after).entries k before after given there
          (still_some before after (λ y. is_year z && (y == z)) c.note.ensures (old.none_empty k before (had_column old.years.entries k (Some before) there))) old.none_empty;
    }

pub returns-in-Some-clause-dates : goal.returns-in-Some-clause-dates
returns-in-Some-clause-dates c =
    let old = c.args.self.now in
    let after = c.note.new.self in
    let there = sym c.get_mut.ensures.value ∙ ap option_copied_mut c.in-Some.is in
    column_years old.years.entries (c.get_mut.follows.lender after).entries c.args.series c.in-Some.years.now after ((c.get_mut.follows.holds after).3 (ap is_some there)).0 there c.args.year true c.note.ensures

pub invariant_of-self-then-not-is_empty : goal.invariant_of-self-then-not-is_empty
invariant_of-self-then-not-is_empty c =
    let old = c.args.self.now in
    let k = c.args.series in
    let after = c.note-2.new.self in
    let kept = c.get_mut.follows.holds-at-none in
    let updates = where_ok c.insert.result _ (c.insert.ensures.succeeds (subst (λ m. 0 < spare m) (sym kept) c.requires)) c.insert.ensures.updates in
    record {
      none_empty = each_has_a_year c.get_mut.follows.lender-at-none.entries c.insert.new.self.entries k (Some after) updates.0
          (column_given after (λ h. absurd (true≢false (sym (c.if-not-is_empty.ensures.1 h))))) (subst EachHasAYear (sym (ap (λ m. m.entries) kept)) old.none_empty);
    }

pub returns-then-not-is_empty-clause-dates : goal.returns-then-not-is_empty-clause-dates
returns-then-not-is_empty-clause-dates c =
    let old = c.args.self.now in
    let k = c.args.series in
    let z = c.args.year in
    let after = c.note-2.new.self in
    let none = sym c.get_mut.ensures.value ∙ ap option_copied_mut c.in_default.is in
    let updates = on_ok c.insert.result c.unwrap.result _ c.unwrap.ensures c.insert.ensures.updates in
    given_years old.years.entries c.insert.new.self.entries k (Some after)
    (λ q. updates.0 q ∙ ap (λ m. cond (series_eq k q) (Some after) (lookup (series_eq q) m.entries)) c.get_mut.follows.holds-at-none)
    (λ y. cond (is_year z && (y == z)) true (has_date old k y))
    (λ y. c.note-2.ensures y ∙ ap (cond (is_year z && (y == z)) true) (c.empty-years.ensures y ∙ sym (ap (λ o. holds_year o y) (had_column old.years.entries k None none))))

pub returns-else-not-is_empty-clause-dates : goal.returns-else-not-is_empty-clause-dates
returns-else-not-is_empty-clause-dates c = λ s y.
    let old = c.args.self.now in
    let k = c.args.series in
    let z = c.args.year in
    let none = sym c.get_mut.ensures.value ∙ ap option_copied_mut c.in_default.is in
    ap (λ m. holds_year (lookup (same_series s) m.entries) y) c.get_mut.follows.holds-at-none
    ∙ no_year old.years.entries k none (λ y. cond (is_year z && (y == z)) true (has_date old k y))
    (λ y. ap (cond (is_year z && (y == z)) true) (ap (λ o. holds_year o y) (had_column old.years.entries k None none) ∙ sym (c.empty-years.ensures y))
    ∙ sym (c.note-2.ensures y) ∙ c.if-not-is_empty.ensures.0 refl y) s y
