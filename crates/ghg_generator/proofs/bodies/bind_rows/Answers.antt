use Rattle.ghg_generator.specs.Bodies.{bind_rows}
use Rattle.ghg_generator.proofs.bodies.bind_rows.Goals as goal

pub returns : goal.returns
unfolding bind_rows
returns c = c.in_ok-format.ensures.ok
