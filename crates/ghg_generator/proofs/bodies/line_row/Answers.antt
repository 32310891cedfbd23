use Rattle.ghg_generator.specs.Bodies.{line_row}
use Rattle.ghg_generator.proofs.bodies.line_row.Goals as goal

pub returns : goal.returns
unfolding line_row
returns c = rw (← c.category_of-category.ensures, ← c.equation_of-equation.ensures) c.in_ok-format.ensures.ok
