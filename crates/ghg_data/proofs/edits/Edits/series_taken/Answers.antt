use Rattle.std.proofs.Common.{◌&&◌, ap, ◌∙◌, sym, subst}
use Rattle.std.specs.FinMap.{find}
use Rattle.ghg_definitions.specs.Data.{key_cmp}
use Rattle.ghg_definitions.specs.Listed.{IsListed}
use Rattle.ghg_data.specs.Calendar.{is_taken}
use Rattle.ghg_data.specs.Series.{dated}
use Rattle.ghg_units.specs.Year.{is_year}
use Rattle.ghg_data.proofs.Dates.{date_listed}
use Rattle.ghg_data.proofs.edits.Edits.series_taken.Goals as goal

pub returns : goal.returns
returns c = λ s y e.
    let has = c.self.invariant.1 s y ∙ ap (λ cs. is_year y && is_taken (find key_cmp (dated s y) cs)) c.self.view_is ∙ e in
    subst (IsListed s) (sym c.series.ensures) (date_listed c.self.inside.taken.years.entries s y has)
