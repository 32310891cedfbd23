use Rattle.ghg_graph.proofs.Ordered.{ordered_acyclic}
use Rattle.ghg_graph.proofs.ordering.check_acyclic.Goals as goal

pub returns : goal.returns
returns g c = ordered_acyclic _ c.in_ok-line_order.field-0.items c.in_ok-line_order.ensures
