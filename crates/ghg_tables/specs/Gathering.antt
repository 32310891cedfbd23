-- The steps of a sum of points: lines in groups by their pairs, and the middles of points added up.
use Rattle.std.specs.Prelude.{ℕ, ◌≡◌, List, [], ℤ, pos, ◌+ℤ◌}
use Rattle.std.specs.List.{fold}
use Rattle.std.specs.Option.{option_map_or}
use Rattle.std.specs.BTreeMap.{get}
use Rattle.ghg_categories.specs.declared.category.Category.{Category}
use Rattle.ghg_equations.specs.declared.quantity.Gas.{Gas}
use Rattle.ghg_cell.specs.declared.input.Input.{Input}
use Rattle.ghg_units.specs.declared.node.Node.{Node}
use Rattle.ghg_definitions.specs.Compilation.{compilation, sheet_of}
use Rattle.ghg_definitions.specs.Data.{Data, Name}
use Rattle.ghg_definitions.specs.Sound.{IsWorkbook}
use Rattle.ghg_definitions.specs.Trials.{IsCompilation, Outcomes}
use Rattle.ghg_keycat.specs.Ranking.{key_order}
use Rattle.ghg_tables.specs.declared.groups.Groups.{Groups}
use Rattle.ghg_tables.specs.Sums.{pair_lines, point_of, shown}

-- ---- lines by their pairs

-- the names in the group of a pair
abbrev pub group_of : Groups → Category × Gas → List Name
group_of groups pair = option_map_or (λ names. names.items) (get key_order groups.by_pair pair) []

-- each pair has its lines in a workbook that is compiled
pub record IsGrouping (m : Data) (groups : Groups) : Type 0 where
  pub lines : (pair : Category × Gas) → group_of groups pair ≡ pair_lines m pair
  pub workbook : IsWorkbook m
  pub compiled : IsCompilation (sheet_of m) (compilation m)

-- ---- middles

-- twice the middle of a value's point, in 10^-12 Gg
abbrev pub doubled : Input → ℤ
doubled x = (point_of x).lo +ℤ (point_of x).hi

-- of the values of nodes
abbrev pub doubled_sum : Outcomes → List Node → ℤ
doubled_sum outcomes ns = fold (λ total n. total +ℤ doubled (shown outcomes n)) (pos 0) ns

-- the largest magnitude of the sum of a workbook's lines, in tonnes
abbrev pub largest_tonnes : ℕ
largest_tonnes = 500_000_000_000_000_000_000
