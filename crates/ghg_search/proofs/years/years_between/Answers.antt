use Rattle.std.proofs.Common.{◌≡◌, ◌∙◌, ◌≤◌, ◌==◌, ◌&&◌, arith, cond, inl, inr, subst, sym, true}
use Rattle.std.proofs.lemmas.Bool.{cases_lt}
use Rattle.ghg_affected.proofs.Bools.{true_not_false}
use Rattle.ghg_units.specs.Year.{is_year}
use Rattle.ghg_data.specs.YearSet.{has_year}
use Rattle.ghg_search.proofs.Spans.{at_year, off_year, one_or_before}
use Rattle.ghg_search.proofs.years.years_between.Goals as goal

pub loop-year-init : goal.loop-year-init
loop-year-init c = record {
  only = λ y h. absurd (true_not_false (sym h ∙ c.empty-years.ensures y));
  all = λ y is low high. absurd (omega (arith, low, high));
}

pub loop-year-preserved : goal.loop-year-preserved
loop-year-preserved c =
    let year = c.loop-year.year in
    let low : c.args.first ≤ year = grind (arith, c.loop-year.auto.year) in
    record {
      only = λ y h. elim (one_or_before _ (has_year c.loop-year.years y) y year (c.with-years.ensures y) h) [
        | inl on ↦ (subst (λ z. is_year z ≡ true) (sym on.1) on.0, omega (arith, on.1, low), omega (arith, on.1, c.loop-year-test.true))
        | inr before ↦ c.loop-year.invariant.only y before
      ];
      all = λ y is from below. elim (cases_lt y year) [
        | inl before ↦
            let apart : y ≡ year → ⊥ = λ e. absurd (omega (arith, e, before)) in
            off_year _ true (has_year c.loop-year.years y) y year apart (c.with-years.ensures y) ∙ c.loop-year.invariant.all y is from before
        | inr past ↦
            let same : y ≡ year = omega (arith, past, below) in
            at_year _ true (has_year c.loop-year.years y) y is (subst (λ z. has_year c.with-years.result y ≡ cond (is_year z && (y == z)) true (has_year c.loop-year.years y)) (sym same) (c.with-years.ensures y))
      ];
    }

pub returns : goal.returns
returns c = record {
  only = c.loop-year.invariant.only;
  all = λ y is low high. c.loop-year.invariant.all y is low (omega (arith, high, c.loop-year-test.false));
}
