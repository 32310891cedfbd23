-- Sums of what lines emit, and the pairs of a category and a gas.
use Rattle.std.specs.Prelude.{ℕ, Bool, true, false, if◌then◌else◌, unwrap_or, List, [], ◌∷◌, map, filter, Option, Some, None, option_and_then, ℤ, pos}
use Rattle.std.specs.List.{flat_map, fold}
use Rattle.std.specs.Option.{option_map, option_map_or}
use Rattle.std.specs.Ordering.{eq_by_cmp}
use Rattle.ghg_categories.specs.declared.category.Category.{Category}
use Rattle.ghg_categories.specs.Tree.{tree}
use Rattle.ghg_equations.specs.declared.quantity.Gas.{Gas}
use Rattle.ghg_equations.specs.contracts.quantity.GasPartialEq.TheImpl as derived
use Rattle.ghg_equations.specs.Quantity.{gases}
use Rattle.ghg_interval.specs.Bounds.{Bounds, exactly, sum}
use Rattle.ghg_cell.specs.declared.input.Input.{Input}
use Rattle.ghg_cell.specs.declared.input.Input.TheVariants.{Blank, Known}
use Rattle.ghg_units.specs.declared.node.Node.{Node}
use Rattle.ghg_units.specs.declared.node.Node.TheVariants as node
use Rattle.ghg_definitions.specs.Compilation.{line_gas}
use Rattle.ghg_definitions.specs.Data.{Data, Name, category, line_names}
use Rattle.ghg_definitions.specs.Trials.{Outcomes, value_of}
use Rattle.ghg_keycat.specs.declared.Pair.{Pair}
use Rattle.ghg_keycat.specs.Ranking.{key_order}
use Rattle.ghg_tables.specs.declared.pairs.Years.{Years}
use Rattle.ghg_tables.specs.declared.precision.Precision.TheVariants.{Thousandths}
use Rattle.ghg_tables.specs.Rounding.{reported}

-- ---- what is shown of a node

-- what is printed of a node: what it is known to be, and else a blank
abbrev pub shown : Outcomes → Node → Input
shown outcomes n = unwrap_or (value_of (outcomes n)) Blank

-- ---- sums of points

-- what a value adds to a sum of points: a blank counts as zero
abbrev pub point_of : Input → Bounds
point_of Blank = exactly (pos 0)
point_of (Known point range) = point

abbrev pub sum_of_points : List Input → Bounds
sum_of_points inputs = fold (λ total x. sum total (point_of x)) (exactly (pos 0)) inputs

-- the reported value of the sum of the points of nodes, in tonnes
abbrev pub tonnes_of : Outcomes → List Node → ℤ
tonnes_of outcomes ns = reported Thousandths (sum_of_points (map (shown outcomes) ns))

-- ---- lines by their category and gas

abbrev pub same_gas : Gas → Gas → Bool
same_gas = (derived.ghosts).eq

-- the category at which a line stands, and the gas that it emits
abbrev pub emission : Data → Name → Option (Category × Gas)
emission m name = option_and_then (λ c. option_map (λ g. (c, g)) (line_gas m name)) (category m name)

-- the lines that emit a gas and pass, by name
abbrev pub lines_where : (Category × Gas → Bool) → Data → List Name
lines_where test m = filter (λ name. option_map_or test (emission m name) false) (line_names m)

-- ---- pairs of a category and a gas

abbrev pub same_pair : Category × Gas → Category × Gas → Bool
same_pair = eq_by_cmp key_order

-- the lines of a pair, by name
abbrev pub pair_lines : Data → Category × Gas → List Name
pair_lines m pair = lines_where (λ k. same_pair k pair) m

-- what a pair emits in a year, in tonnes of CO2 equivalent
abbrev pub pair_tonnes : Data → Outcomes → ℕ → Category × Gas → ℤ
pair_tonnes m outcomes year pair = tonnes_of outcomes (map (λ name. node.Equiv name year) (pair_lines m pair))

-- a pair with what it emits in both years
abbrev pub pair_of : Data → Outcomes → Years → Category × Gas → Pair
pair_of m outcomes years pair = record {
  category = pair.0;
  gas = pair.1;
  base = pair_tonnes m outcomes years.base pair;
  now = pair_tonnes m outcomes years.current pair;
}

abbrev pub is_empty : List Name → Bool
is_empty [] = true
is_empty (x ∷ xs) = false

-- the pair, if it has a line
unfoldable pub pair_at : Data → Outcomes → Years → Category × Gas → List Pair
pair_at m outcomes years pair =
    if is_empty (pair_lines m pair) then [] else (pair_of m outcomes years pair ∷ [])

-- each pair that has a line in the tree, by category and then by gas
unfoldable pub pairs : Data → Outcomes → Years → List Pair
pairs m outcomes years =
    flat_map (λ c. flat_map (λ g. pair_at m outcomes years (c, g)) gases) tree
