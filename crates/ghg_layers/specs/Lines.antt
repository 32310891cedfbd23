-- The lines of nodes by numbers, and places of them by which each stands behind those that it takes.
use Rattle.std.specs.Prelude.{◌≡◌, ◌<◌, ℕ, true, false, List, length, slice_index, Option, None, Some}
use Rattle.std.specs.List.Sorted.{IsStrictlySortedBy}
use Rattle.ghg_units.specs.declared.node.Node.{Node}
use Rattle.ghg_units.specs.declared.node.Node.TheVariants as node
use Rattle.ghg_definitions.specs.Data.{Data, Name, name_cmp}
use Rattle.ghg_graph.specs.Links.{IsLink, Links}
use Rattle.ghg_graph.specs.Numbers.{IsNumbering}
use Rattle.ghg_layers.specs.declared.lines.Lines.{Lines}

-- the line of a node that is a line's value
abbrev pub line_in : Node → Option Name
line_in (node.Line name year) = Some name
line_in _ = None

-- each line is placed behind those that it takes
pub record ArePlaces (links : Links) (places : List ℕ) : Type 0 where
  pub count : length places ≡ length links
  pub behind : (i j : ℕ) → IsLink links i j → slice_index places j < slice_index places i

pub record AreLines (m : Data) (l : Lines) : Type 0 where
  pub order : IsStrictlySortedBy name_cmp l.names.items
  pub links : IsNumbering false m l.names.items l.links
  pub previous : IsNumbering true m l.names.items l.previous
  pub places : ArePlaces l.links l.places.items
