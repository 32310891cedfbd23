use Rattle.std.proofs.Common.{◌≡◌, ◌+◌, ◌-◌, ◌∙◌, map, arith, refl, sym, ap}
use Rattle.ghg_definitions.specs.Compilation.{compilation, years_from}
use Rattle.ghg_definitions.specs.Data.{span}
use Rattle.ghg_tables.specs.Values.{values}
use Rattle.ghg_versions.proofs.Reports.{kept_more, no_years, reported_years}
use Rattle.ghg_versions.proofs.version.Report.of.Goals as goal
use Rattle.ghg_versions.proofs.version.Report.of.Goals.{else-loop-year-test, then-loop-year-test+in_ok-kept_values+in_ok-push+else-year-year-end}

pub returns-in_default : goal.returns-in_default
returns-in_default g c = no_years _ _ (sym (c.in_default.ensures.span ∙ ap span c.book.ensures.content)) refl c.new-years.ensures.items

pub loop-year-preserved : goal.loop-year-preserved
loop-year-preserved g c =
    let m = g.C.Cells.content c.args.cells.now in
    let first = c.in-Some.span.first in
    record {
      so_far = kept_more (λ kept. kept.items) (values m (compilation m)) first c.loop-year.year c.loop-year.years.items c.push.new.self.items
          c.in_ok-kept_values.field-0 c.loop-year.auto.year c.loop-year.invariant.so_far c.in_ok-push.ensures.items c.in_ok-kept_values.ensures;
      past = grind (arith);
    }

pub returns : goal.returns
returns g c =
    let m = g.C.Cells.content c.args.cells.now in
    let s = c.in-Some.span in
    let there = sym (c.in-Some.ensures.span ∙ ap span c.book.ensures.content) in
    elim c.loop-year-test.branch [
      | else-loop-year-test w ↦
          let first : c.loop-year.year ≡ s.first = c.loop-year.invariant.past w.loop-year-test.false in
          let count : c.loop-year.year - s.first ≡ s.last + 1 - s.first = omega (arith, first, w.loop-year-test.false) in
          reported_years m _ s there refl
          (ap (λ v. map (λ kept. kept.items) v.items) w.years-is ∙ c.loop-year.invariant.so_far ∙ ap (λ n. map (values m (compilation m)) (years_from s.first n)) count)
      | then-loop-year-test+in_ok-kept_values+in_ok-push+else-year-year-end w ↦
          let last : c.loop-year.year ≡ s.last = grind (arith) in
          let count : c.loop-year.year + 1 - s.first ≡ s.last + 1 - s.first = omega (arith, last) in
          reported_years m _ s there refl
          (ap (λ v. map (λ kept. kept.items) v.items) w.years-is
          ∙ kept_more (λ kept. kept.items) (values m (compilation m)) s.first c.loop-year.year c.loop-year.years.items w.push.new.self.items
          w.in_ok-kept_values.field-0 c.loop-year.auto.year c.loop-year.invariant.so_far w.in_ok-push.ensures.items w.in_ok-kept_values.ensures
          ∙ ap (λ n. map (values m (compilation m)) (years_from s.first n)) count)
    ]
