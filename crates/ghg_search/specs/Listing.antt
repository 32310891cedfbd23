-- Nodes of series, listed in order.
use Rattle.std.specs.Prelude.{◌≡◌, ◌⊎◌, ◌<◌, List}
use Rattle.std.specs.List.Sorted.{IsStrictlySortedBy}
use Rattle.std.specs.declared.cmp.Ordering.TheVariants.{Less}
use Rattle.ghg_units.specs.declared.node.Node.{Node}
use Rattle.ghg_data.specs.declared.year_set.YearSet.{YearSet}
use Rattle.ghg_definitions.specs.Listed.{IsListed}
use Rattle.ghg_definitions.specs.Nodes.{node_cmp, year_in}
use Rattle.ghg_search.specs.Found.{IsIn}
use Rattle.ghg_search.specs.Series.{IsOf}
use Rattle.ghg_columns.specs.Cells.{series_of, series_order}
use Rattle.ghg_search.specs.declared.found.Found.{Found}
use Rattle.ghg_columns.specs.declared.series.Series.{Series}

-- the nodes of the series in the years are listed too, in order if the series stands after those of the
-- others
pub record AreListed (s : Series) (years : YearSet) (old new : List Node) : Type 0 where
  pub kept : (n : Node) → IsListed n old → IsListed n new
  pub all : (n : Node) → 0 < year_in n → IsOf s years n → IsListed n new
  pub only : (n : Node) → IsListed n new → IsListed n old ⊎ IsOf s years n
  pub order : IsStrictlySortedBy node_cmp old →
      ((n : Node) → IsListed n old → series_order (series_of n) s ≡ Less) → IsStrictlySortedBy node_cmp new

-- the list has the nodes of these series that are found, in order
pub record AreOfSeries (f : Found) (all : List Series) (ns : List Node) : Type 0 where
  pub order : IsStrictlySortedBy node_cmp ns
  pub only : (n : Node) → IsListed n ns → IsIn f n × IsListed (series_of n) all
  pub all_found : (n : Node) → 0 < year_in n → IsIn f n → IsListed (series_of n) all → IsListed n ns
