use Rattle.ghg_generator.specs.Bodies.{activity_row}
use Rattle.ghg_generator.proofs.bodies.activity_row.Goals as goal

pub returns : goal.returns
unfolding activity_row
returns c = c.in_ok-format.ensures.ok
