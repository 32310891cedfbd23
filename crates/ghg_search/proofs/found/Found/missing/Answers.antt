use Rattle.std.proofs.Common.{◌∙◌, ◌&&◌, ◌||◌, ap, not}
use Rattle.ghg_data.specs.YearSet.{has_year}
use Rattle.ghg_search.proofs.found.Found.missing.Goals as goal

pub returns : goal.returns
returns c = λ y. c.changed.ensures y
    ∙ ap (λ b. b || (has_year c.args.years.now y && not (has_year c.years_of.result y))) (c.empty.ensures y)
    ∙ ap (λ b. has_year c.args.years.now y && not b) (c.years_of.ensures y)
