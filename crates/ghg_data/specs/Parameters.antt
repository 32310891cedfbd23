-- The parameters of equations, as the code has them.
use Rattle.ghg_equations.specs.declared.row.Param.{Param}
use Rattle.ghg_equations.specs.Table.{Quantity, ◌of◌}

-- the parameter as the table names it
abbrev pub quantity : Param → Quantity
quantity p = p.name.now of p.dim
