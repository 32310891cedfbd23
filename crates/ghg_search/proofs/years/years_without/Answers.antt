use Rattle.std.proofs.Common.{◌∙◌, ◌&&◌, ◌||◌, ap, not}
use Rattle.ghg_data.specs.YearSet.{has_year}
use Rattle.ghg_search.proofs.years.years_without.Goals as goal

pub returns : goal.returns
returns c = λ y. c.changed.ensures y ∙ ap (λ b. b || (has_year c.args.years.now y && not (has_year c.args.others.now y))) (c.empty.ensures y)
