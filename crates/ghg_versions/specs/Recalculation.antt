-- The values that were reported beside those that hold now.
-- Source: 2006 IPCC Guidelines, Volume 1, Chapter 5, Section 5.2 (recalculations).
use Rattle.std.specs.Prelude.{ℕ, ◌&&◌, Bool, is_none, unwrap_or, if◌then◌else◌, List, [], ◌∷◌, ◌++◌, codes, Option, find, option_map, ℤ, pos, ◌-ℤ◌}
use Rattle.std.specs.List.{flat_map}
use Rattle.ghg_categories.specs.declared.category.Category.{Category}
use Rattle.ghg_categories.specs.Tree.{code_of, is_same, tree}
use Rattle.ghg_equations.specs.declared.quantity.Gas.{Gas}
use Rattle.ghg_equations.specs.Quantity.{gases, word_of}
use Rattle.ghg_tables.specs.declared.values.PairValue.{PairValue}
use Rattle.ghg_tables.specs.Analyses.{gap_text}
use Rattle.ghg_tables.specs.Sums.{same_gas}
use Rattle.ghg_tables.specs.Texts.{field, tonnes_text}

-- the value of a pair among those of a year
abbrev pub is_of : Category × Gas → PairValue → Bool
is_of pair v = is_same v.category pair.0 && same_gas v.gas pair.1

abbrev pub value_in : List PairValue → Category × Gas → Option ℤ
value_in rows pair = option_map (λ v. v.tonnes) (find (is_of pair) rows)

-- the category and the gas
unfoldable pub pair_text : Category × Gas → List ℕ
pair_text pair = field (code_of pair.0) ++ field (word_of pair.1)

-- what was reported, what holds now, and the second less the first
unfoldable pub amounts_text : ℤ → ℤ → List ℕ
amounts_text reported now =
    field (tonnes_text reported) ++ field (tonnes_text now) ++ field (tonnes_text (now -ℤ reported))

-- and the difference as a percentage of the magnitude of what was reported: a dash where this is zero
unfoldable pub compared_row : Category × Gas → ℤ → ℤ → List ℕ
compared_row pair reported now =
    pair_text pair ++ amounts_text reported now ++ gap_text (now -ℤ reported) reported ++ 10 ∷ []

-- a value that is missing counts as zero
abbrev pub value_or_zero : List PairValue → Category × Gas → ℤ
value_or_zero values pair = unwrap_or (value_in values pair) (pos 0)

-- the row of a pair that is among the values of either
unfoldable pub recalculated_row : List PairValue → List PairValue → Category × Gas → List ℕ
recalculated_row reported now pair =
    if is_none (value_in reported pair) && is_none (value_in now pair) then []
    else compared_row pair (value_or_zero reported pair) (value_or_zero now pair)

-- each such pair, by category and then by gas
unfoldable pub recalculation : List PairValue → List PairValue → List ℕ
recalculation reported now =
    codes "category,gas,reported,now,difference,percent\n" ++
    flat_map (λ c. flat_map (λ g. recalculated_row reported now (c, g)) gases) tree
