use Rattle.ghg_data.proofs.Order.{in_order}
use Rattle.ghg_data.proofs.book.BookRecords.lines.Goals as goal

pub returns-clause-order : goal.returns-clause-order
returns-clause-order c = in_order (λ v. v.items) c.self.inside.holdings.content c.lines.result.now c.from_slice.result c.lines.ensures c.from_slice.ensures.items
