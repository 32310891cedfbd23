use Rattle.std.proofs.Common.{◌∙◌, arith, sym}
use Rattle.ghg_affected.proofs.Bools.{never_so}
use Rattle.ghg_definitions.proofs.Alike.{both, first_so, so_not}
use Rattle.ghg_data.specs.YearSet.{has_year}
use Rattle.ghg_search.proofs.years.years_from.Goals as goal

pub returns-clause-only : goal.returns-clause-only
returns-clause-only c = λ y h. first_so (has_year c.args.years.now y) _ (sym (c.years_without.ensures y) ∙ h)

pub returns-clause-all : goal.returns-clause-all
returns-clause-all c = λ y h late. c.years_without.ensures y ∙ both _ _ h (so_not _ (never_so _ (λ e.
    let early = (c.years_between.ensures.only y e).2 in absurd (omega (arith, early, late)))))
