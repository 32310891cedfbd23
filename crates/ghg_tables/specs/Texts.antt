-- The rows of the tables, as functions of what stands in them.
use Rattle.std.specs.Prelude.{ℕ, Bool, true, false, List, [], ◌∷◌, ◌++◌, codes, decimal, ℤ, pos, ◌*ℤ◌}
use Rattle.ghg_categories.specs.declared.category.Category.{Category}
use Rattle.ghg_categories.specs.Tree.{code_of}
use Rattle.ghg_equations.specs.declared.eq_id.EqId.{EqId}
use Rattle.ghg_equations.specs.declared.quantity.Output.{Output}
use Rattle.ghg_equations.specs.declared.quantity.Output.TheVariants.{Emission, Aux}
use Rattle.ghg_equations.specs.Quantity.{word_of}
use Rattle.ghg_equations.specs.Table.{code, output}
use Rattle.ghg_units.specs.Fixed.{fixed_text}
use Rattle.ghg_units.specs.Units.{base_word_of}
use Rattle.ghg_cell.specs.declared.input.Input.{Input}
use Rattle.ghg_cell.specs.declared.input.Input.TheVariants.{Blank, Known}
use Rattle.ghg_interval.specs.Bounds.{Bounds}
use Rattle.ghg_definitions.specs.Data.{Name}
use Rattle.ghg_tables.specs.declared.precision.Precision.{Precision}
use Rattle.ghg_tables.specs.declared.precision.Precision.TheVariants.{Thousandths}
use Rattle.ghg_tables.specs.Rounding.{reported, low_of, high_of, nearest, places_of, precision_of}

-- ---- pieces of a row

-- a text and a comma
unfoldable pub field : List ℕ → List ℕ
field text = text ++ 44 ∷ []

unfoldable pub number_text : Precision → ℤ → List ℕ
number_text p n = fixed_text n (places_of p)

-- a value and two bounds, in units of the last decimal
abbrev pub three_decimals : Precision → ℤ → ℤ → ℤ → List ℕ
three_decimals p value low high =
    field (number_text p value) ++ field (number_text p low) ++ number_text p high

unfoldable pub known_text : Precision → Bounds → Bounds → List ℕ
known_text p point range = three_decimals p (reported p point) (low_of p range) (high_of p range)

-- a value and its bounds
unfoldable pub figures_text : Precision → Input → List ℕ
figures_text p Blank = codes "NE,NE,NE"
figures_text p (Known point range) = known_text p point range

-- the gas of an emission
abbrev pub gas_word_of : Output → List ℕ
gas_word_of (Emission gas) = word_of gas
gas_word_of (Aux dim) = codes "-"

-- emissions are printed in Gg, and other quantities in the base unit
abbrev pub unit_word_of : Output → List ℕ
unit_word_of (Emission gas) = codes "Gg"
unit_word_of (Aux dim) = base_word_of dim

-- ---- rows

-- the words of a line that no year changes, but for its gas
unfoldable pub identity_text : Name → Category → EqId → List ℕ
identity_text name c e = field name ++ field (code_of c) ++ field (code e)

-- what stands before the value of a line
abbrev pub cell_words : Name → Category → EqId → List ℕ
cell_words name c e =
    identity_text name c e ++ field (gas_word_of (output e)) ++ field (unit_word_of (output e))

-- a line and its value
unfoldable pub cell_text : Name → Category → EqId → Input → List ℕ
cell_text name c e value = cell_words name c e ++ figures_text (precision_of (output e)) value ++ 10 ∷ []

-- a total by its name
unfoldable pub total_text : List ℕ → Input → List ℕ
total_text name total = field name ++ figures_text Thousandths total ++ 10 ∷ []

-- a year with its national and its gross total
unfoldable pub year_text : ℕ → Input → Input → List ℕ
year_text year total gross =
    field (decimal year) ++ field (figures_text Thousandths total) ++
    figures_text Thousandths gross ++ 10 ∷ []

-- ---- pieces of a row of an analysis

-- a number of hundredths, with two decimals
unfoldable pub hundredths_text : ℤ → List ℕ
hundredths_text n = fixed_text n 2

-- n over d as a percentage, to the nearest hundredth
unfoldable pub percent_text : ℕ → ℤ → List ℕ
percent_text d n = hundredths_text (nearest d (pos 10000 *ℤ n))

-- a reported value, in tonnes
unfoldable pub tonnes_text : ℤ → List ℕ
tonnes_text n = number_text Thousandths n

abbrev pub answer_text : Bool → List ℕ
answer_text true = codes "yes"
answer_text false = codes "no"
