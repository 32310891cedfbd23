use Rattle.ghg_generator.specs.Bodies.{factor_row}
use Rattle.ghg_generator.proofs.bodies.factor_row.Goals as goal

pub returns : goal.returns
unfolding factor_row
returns c = c.in_ok-format.ensures.ok
