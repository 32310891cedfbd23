use Rattle.std.proofs.Common.{◌&&◌, is_some, ◌∙◌, ap}
use Rattle.std.specs.FinMap.{get}
use Rattle.ghg_data.specs.Series.{dated}
use Rattle.ghg_units.specs.Year.{is_year}
use Rattle.ghg_data.proofs.Calendars.{merged}
use Rattle.ghg_data.proofs.draft.Draft.years.Goals as goal

pub returns : goal.returns
returns c = λ y.
    let key = dated c.args.series.now y in
    c.changed.ensures y
    ∙ merged c.self.inside.holdings.now.content c.self.inside.edits.now key (is_year y) _ _ _ (c.years_put-put.ensures y) (c.years_taken-taken.ensures y) (c.years.ensures y)
    ∙ ap (λ m. is_year y && is_some (get m key)) c.self.view_is
