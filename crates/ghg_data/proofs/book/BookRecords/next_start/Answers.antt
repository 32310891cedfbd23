use Rattle.std.proofs.Common.{subst}
use Rattle.ghg_data.specs.Lasting.{IsNextStart}
use Rattle.ghg_data.specs.YearSet.{has_year}
use Rattle.ghg_data.proofs.InForce.{next_start}
use Rattle.ghg_data.proofs.book.BookRecords.next_start.Goals as goal

pub returns : goal.returns
returns c =
    subst (λ s. IsNextStart s.content c.args.name.now c.args.year c.first_after.result) c.self.view_is
    (next_start c.self.inside.holdings.content c.self.invariant c.args.name.now (has_year c.years-years.result) c.years-years.ensures c.args.year c.first_after.result c.first_after.ensures)
