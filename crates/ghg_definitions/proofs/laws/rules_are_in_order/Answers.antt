use Rattle.ghg_definitions.proofs.Planned.{rules_in_order}
use Rattle.ghg_definitions.proofs.laws.rules_are_in_order.Goals as goal

pub returns : goal.returns
returns c = rules_in_order
