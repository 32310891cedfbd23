use Rattle.std.proofs.Common.{subst}
use Rattle.ghg_definitions.specs.Data.{Data}
use Rattle.ghg_data.specs.Lasting.{IsNextStart}
use Rattle.ghg_data.specs.YearSet.{has_year}
use Rattle.ghg_data.proofs.InForce.{next_start}
use Rattle.ghg_data.proofs.view.AfterRecords.next_start.Goals as goal

pub returns : goal.returns
returns c =
    subst (λ (m : Data). IsNextStart m c.args.name.now c.args.year c.first_after.result) c.self.view_is
    (next_start c.self.inside.draft c.self.invariant c.args.name.now (has_year c.years-years.result) c.years-years.ensures c.args.year c.first_after.result c.first_after.ensures)
