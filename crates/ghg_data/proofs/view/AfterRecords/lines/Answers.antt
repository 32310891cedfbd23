use Rattle.std.proofs.Common.{refl}
use Rattle.ghg_definitions.specs.Data.{line_names}
use Rattle.ghg_data.proofs.Order.{in_order}
use Rattle.ghg_data.proofs.view.AfterRecords.lines.Goals as goal

pub returns-clause-order : goal.returns-clause-order
returns-clause-order c = in_order (λ v. v.items) c.self.inside.draft (line_names c.self.inside.draft) c.lines.result refl c.lines.ensures
