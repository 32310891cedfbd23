-- What the parameters of a line take.
use Rattle.std.specs.Prelude.{◌≡◌, ◌≤◌, ℕ, Bool, true, false, not, if◌then◌else◌, List, map, length, Option, Some, None, Ok, Err}
use Rattle.std.specs.List.{AllByRecursion, list_all, list_any}
use Rattle.ghg_cell.specs.declared.input.Input.{Input}
use Rattle.ghg_cell.specs.Totals.{is_limited}
use Rattle.ghg_cell.specs.Values.{is_blank}
use Rattle.ghg_columns.specs.Cells.{outcome_in}
use Rattle.ghg_definitions.specs.Compilation.{bound_to, first_year}
use Rattle.ghg_definitions.specs.Data.{Data, Name, span}
use Rattle.ghg_definitions.specs.Formulas.{Operand, Outcome, SumOf, gather, map_operand, nodes_in, operand_outcome}
use Rattle.ghg_definitions.specs.Lookups.{given}
use Rattle.ghg_definitions.specs.Rules.{most_lines}
use Rattle.ghg_definitions.specs.Trials.{Outcomes}
use Rattle.ghg_units.specs.declared.node.Node.{Node}
use Rattle.ghg_units.specs.declared.node.Node.TheVariants as node
use Rattle.ghg_units.specs.declared.row.Binding.{Binding}
use Rattle.ghg_evaluation.specs.declared.arguments.Arguments.{Arguments}
use Rattle.ghg_evaluation.specs.declared.arguments.Taken.{Taken}
use Rattle.ghg_evaluation.specs.declared.arguments.Taken.TheVariants as taken

-- ---- outcomes

-- what a binding gives in a year
abbrev pub operand_by : Data → ℕ → Option Binding → Operand Input
operand_by m year b = map_operand (given m) (bound_to m (first_year (span m)) year b)

abbrev pub operands_by : Data → ℕ → List (Option Binding) → List (Operand Input)
operands_by m year bs = map (operand_by m year) bs

-- what operands give over the outcomes
abbrev pub operand_outcomes : Outcomes → List (Operand Input) → List Outcome
operand_outcomes outcomes operands = map (operand_outcome (outcome_in outcomes)) operands

-- no more nodes than a sum may have parts
abbrev pub IsShort : Operand Input → Type 0
IsShort a = length (nodes_in a) ≤ most_lines

abbrev pub AreShort : Data → ℕ → List (Option Binding) → Type 0
AreShort m year bs = AllByRecursion IsShort (operands_by m year bs)

-- what the sum of nodes gives
abbrev pub sum_outcome : Outcomes → List Node → Outcome
sum_outcome outcomes ns = operand_outcome (outcome_in outcomes) (SumOf ns)

-- the lines' nodes of a year
abbrev pub lines_in : List Name → ℕ → List Node
lines_in names year = map (λ name. node.Line name year) names

-- the parts are what the nodes give, where none of these is over
pub record AreParts (outcomes : Outcomes) (ns : List Node) (parts : List Input) (whole : Bool) : Type 0 where
  pub gathered : gather (map (outcome_in outcomes) ns) ≡ (if whole then Ok parts else Err (record {}))
  pub count : whole ≡ true → length parts ≡ length ns

-- ---- what is taken

-- the outcome is known, and a bound of it is beyond the limit of intervals
pub record IsBeyond (x : Outcome) : Type 0 where
  pub found : Input
  pub outcome : x ≡ Ok found
  pub beyond : is_limited found ≡ false

-- the outcome is taken as it is, within that limit, or noted as beyond it
abbrev pub IsTaken : Outcome → Taken → Type 0
IsTaken x (taken.Input i) = (x ≡ Ok i) × (is_limited i ≡ true)
IsTaken x taken.Beyond = IsBeyond x

-- it is over, or it is taken
abbrev pub IsArgument : Outcome → Option Taken → Type 0
IsArgument x None = x ≡ Err (record {})
IsArgument x (Some t) = IsTaken x t

-- ---- all that is taken

-- none of the outcomes is over, and the arguments are what the outcomes give, unless one of these is beyond
-- the limit of intervals; each argument is within it
pub record IsHeld (outcomes : List Outcome) (held : Arguments) : Type 0 where
  pub found : List Input
  pub gathered : gather outcomes ≡ Ok found
  pub count : length found ≡ length outcomes
  pub blank : held.blank ≡ list_any is_blank found
  pub fit : held.fit ≡ true → held.inputs.items ≡ found
  pub beyond : held.fit ≡ false → list_any (λ i. not (is_limited i)) found ≡ true
  pub limited : list_all is_limited held.inputs.items ≡ true

-- where one of the outcomes is over, so is what they give together
abbrev pub AreGathered : List Outcome → Arguments → Bool → Type 0
AreGathered outcomes held true = IsHeld outcomes held
AreGathered outcomes held false = gather outcomes ≡ Err (record {})
