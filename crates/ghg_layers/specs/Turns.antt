-- Turns of given lines: by year, and then by place.
use Rattle.std.specs.Prelude.{◌≡◌, ◌<◌, ◌+◌, ℕ, List, length, slice_index}
use Rattle.std.specs.declared.cmp.Ordering.{Ordering}
use Rattle.ghg_units.specs.declared.node.Node.{Node}
use Rattle.ghg_units.specs.declared.node.Node.TheVariants as node
use Rattle.ghg_definitions.specs.Data.{Name}
use Rattle.ghg_definitions.specs.Listed.{IsListed}
use Rattle.ghg_graph.specs.Numbers.{name_at}
use Rattle.ghg_layers.specs.contracts.turns.TurnOrd.TheImpl as derived_of_turns
use Rattle.ghg_layers.specs.declared.lines.Lines.{Lines}
use Rattle.ghg_layers.specs.declared.turns.Turn.{Turn}

abbrev pub turn_order : Turn → Turn → Ordering
turn_order = (derived_of_turns.ghosts).cmp

-- the turn of a line in a year
pub record IsTurnOf (l : Lines) (t : Turn) : Type 0 where
  pub number : t.number < length l.names.items
  pub place : t.place ≡ slice_index l.places.items t.number

-- the turns of all given lines, whose years are told as years behind the first
pub record AreTurns (l : Lines) (first : ℕ) (nodes : List Node) (turns : List Turn) : Type 0 where
  pub each : (t : Turn) → IsListed t turns → IsTurnOf l t
  pub given : (t : Turn) → IsListed t turns →
      IsListed (node.Line (name_at l.names.items t.number) (first + t.year)) nodes
  pub all : (name : Name) (year : ℕ) → IsListed (node.Line name year) nodes →
      (t : Turn) × IsListed t turns × (name_at l.names.items t.number ≡ name) × (first + t.year ≡ year)
