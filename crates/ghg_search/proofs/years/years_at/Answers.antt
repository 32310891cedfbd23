use Rattle.std.proofs.Common.{◌∙◌, sym, true}
use Rattle.ghg_definitions.proofs.Alike.{first_so}
use Rattle.ghg_data.specs.YearSet.{has_year}
use Rattle.ghg_search.proofs.Spans.{at_year, only_one}
use Rattle.ghg_search.proofs.years.years_at.Goals as goal

pub returns-clause-only : goal.returns-clause-only
returns-clause-only c = λ y h. first_so (has_year c.args.years.now y) _ (sym (c.years_without-2.ensures y) ∙ h)

pub returns-clause-all : goal.returns-clause-all
returns-clause-all c = λ is h. only_one c.args.years.now c.with.result c.years_without.result c.years_without-2.result c.args.year
    h (at_year _ true _ c.args.year is (c.with.ensures c.args.year)) c.years_without.ensures c.years_without-2.ensures
