-- What a line takes otherwise.
use Rattle.std.specs.Prelude.{ℕ, Bool, false, Option}
use Rattle.std.specs.Option.{option_map_or}
use Rattle.ghg_cell.specs.declared.input.Input.{Input}
use Rattle.ghg_equations.specs.declared.eq_id.EqId.{EqId}
use Rattle.ghg_units.specs.declared.row.Binding.{Binding}
use Rattle.ghg_definitions.specs.Compilation.{bound_to, first_year}
use Rattle.ghg_definitions.specs.Data.{Data, Name, line, span}
use Rattle.ghg_definitions.specs.Formulas.{Operand, map_operand}
use Rattle.ghg_definitions.specs.Lookups.{given}
use Rattle.ghg_affected.specs.Equalities.{same_equation}

-- what a binding gives in a year
abbrev pub given_by : Data → ℕ → Option Binding → Operand Input
given_by m year b = map_operand (given m) (bound_to m (first_year (span m)) year b)

-- the line had the equation
abbrev pub had_equation : Data → Name → EqId → Bool
had_equation old name e = option_map_or (λ d. same_equation d e) (line old name) false
