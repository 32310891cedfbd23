-- Nodes that are found one after the other.
use Rattle.std.specs.Prelude.{◌≡◌, ◌⊎◌, ℕ, Bool, true, false, List, ◌++◌}
use Rattle.std.specs.BTreeMap.{get}
use Rattle.std.specs.List.{Contains}
use Rattle.std.specs.List.Sorted.{IsStrictlySortedBy}
use Rattle.std.specs.Option.{option_map_or}
use Rattle.ghg_units.specs.declared.node.Node.{Node}
use Rattle.ghg_units.specs.declared.node.Node.TheVariants as node
use Rattle.ghg_affected.specs.Affected.{IsAffected, is_changed}
use Rattle.ghg_data.specs.YearSet.{has_year}
use Rattle.ghg_definitions.specs.Data.{Data, Name}
use Rattle.ghg_definitions.specs.Listed.{IsListed}
use Rattle.ghg_definitions.specs.Nodes.{node_cmp, year_in}
use Rattle.ghg_search.specs.Series.{IsOf}
use Rattle.ghg_columns.specs.Cells.{series_of, series_order}
use Rattle.ghg_search.specs.declared.found.Found.{Found}
use Rattle.ghg_search.specs.declared.found.Group.{Group}
use Rattle.ghg_columns.specs.declared.series.Series.{Series}

-- the list has the affected nodes of the new data and no other, each once, and in the order of nodes
pub record ListsAffected (old new : Data) (ns : List Node) : Type 0 where
  pub order : IsStrictlySortedBy node_cmp ns
  pub sound : (n : Node) → Contains ns n → IsAffected old new n
  pub complete : (n : Node) → IsAffected old new n → Contains ns n

-- the node of the series in the year is found
abbrev pub is_found : Found → Series → ℕ → Bool
is_found f s year = option_map_or (λ years. has_year years year) (get series_order f.years s) false

abbrev pub IsIn : Found → Node → Type 0
IsIn f n = is_found f (series_of n) (year_in n) ≡ true

-- it is queued, in one of the groups
abbrev pub IsQueued : Found → Node → Type 0
IsQueued f n = (group : Group) × IsListed group f.queue.items × IsOf group.series group.years n

-- each node that is found is queued
abbrev pub AreQueued : Found → Type 0
AreQueued f = (n : Node) → IsIn f n → IsQueued f n

-- more nodes are found, all of which have P, and are queued behind the others
pub record AreAdded (P : Node → Type 0) (old new : Found) : Type 0 where
  pub queued : AreQueued old → AreQueued new
  pub kept : (n : Node) → IsIn old n → IsIn new n
  pub only : (n : Node) → IsQueued new n → IsQueued old n ⊎ P n
  pub behind : (fresh : List Group) × (new.queue.items ≡ old.queue.items ++ fresh)

-- more nodes are found: all that have P, and no others
pub record AreFound (P : Node → Type 0) (old new : Found) : Type 0 where
  pub added : AreAdded P old new
  pub found : (n : Node) → P n → IsIn new n

-- the line is found in the year, if it is changed
abbrev pub IsLineTried : Data → Data → Found → Name → ℕ → Type 0
IsLineTried old new f name year =
    is_changed old new (node.Line name year) ≡ true → IsIn f (node.Line name year)

-- its equivalent is, or the line, if the equivalent is changed
abbrev pub IsEquivalentTried : Data → Data → Found → Name → ℕ → Type 0
IsEquivalentTried old new f name year =
    is_changed old new (node.Equiv name year) ≡ true →
    IsIn f (node.Line name year) ⊎ IsIn f (node.Equiv name year)
