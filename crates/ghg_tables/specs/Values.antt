-- The values of a year, of each pair of a category and a gas.
use Rattle.std.specs.Prelude.{ℕ, List, map}
use Rattle.ghg_definitions.specs.Data.{Data}
use Rattle.ghg_definitions.specs.Trials.{Outcomes}
use Rattle.ghg_keycat.specs.declared.Pair.{Pair}
use Rattle.ghg_tables.specs.declared.pairs.Years.{Years}
use Rattle.ghg_tables.specs.declared.values.PairValue.{PairValue}
use Rattle.ghg_tables.specs.Sums.{pairs}

-- a pair with its value of the year that is assessed
abbrev pub pair_value : Pair → PairValue
pair_value p = record { category = p.category; gas = p.gas; tonnes = p.now }

-- a year beside itself
abbrev pub alone : ℕ → Years
alone year = record { base = year; current = year }

-- each pair that has a line in the tree, by category and then by gas
unfoldable pub values : Data → Outcomes → ℕ → List PairValue
values m outcomes year = map pair_value (pairs m outcomes (alone year))
