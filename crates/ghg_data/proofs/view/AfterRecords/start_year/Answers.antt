use Rattle.std.proofs.Common.{◌∙◌, ap}
use Rattle.ghg_definitions.specs.Data.{Data}
use Rattle.ghg_definitions.specs.Lookups.{factor_key}
use Rattle.ghg_data.specs.YearSet.{has_year}
use Rattle.ghg_data.proofs.InForce.{in_force}
use Rattle.ghg_data.proofs.view.AfterRecords.start_year.Goals as goal

pub returns-clause-start : goal.returns-clause-start
returns-clause-start c =
    in_force c.self.inside.draft c.self.invariant c.args.name.now (has_year c.years-years.result) c.years-years.ensures c.args.year c.last_until.result c.last_until.ensures
    ∙ ap (λ (m : Data). factor_key m c.args.name.now c.args.year) c.self.view_is
