-- What is said of the definitions alone.
use Rattle.std.specs.Prelude.{◌≡◌, ◌≤◌, ◌<◌, ℕ, ◌*◌, ◌^◌, ℤ, pos, negsuc, ◌-ℤ◌, ◌*ℤ◌, ◌≤ℤ◌, unsigned_abs, [], ◌∷◌, codes, map, List, Option, Some, None, Result, Ok, Err}
use Rattle.std.specs.List.{flat_map}
use Rattle.std.specs.List.Sorted.{IsStrictlySortedBy}
use Rattle.ghg_categories.specs.declared.category.Category.{Category}
use Rattle.ghg_categories.specs.declared.category.Category.TheVariants.{C1A1a}
use Rattle.ghg_categories.specs.Tree.{tree}
use Rattle.ghg_equations.specs.declared.eq_id.EqId.{EqId}
use Rattle.ghg_equations.specs.declared.eq_id.EqId.TheVariants.{Q10, Q13}
use Rattle.ghg_equations.specs.declared.quantity.Gas.{Gas}
use Rattle.ghg_equations.specs.Quantity.{gases}
use Rattle.ghg_equations.specs.Table.{output}
use Rattle.ghg_interval.specs.declared.Over.{Over}
use Rattle.ghg_interval.specs.Bounds.{Bounds, Inside, exactly}
use Rattle.ghg_interval.specs.Fractions.{Fraction}
use Rattle.ghg_cell.specs.declared.input.Input.{Input}
use Rattle.ghg_cell.specs.declared.input.Input.TheVariants.{Known}
use Rattle.ghg_cell.specs.Values.{equation_value, then}
use Rattle.ghg_units.specs.declared.node.Node.{Node}
use Rattle.ghg_units.specs.declared.node.Node.TheVariants as node
use Rattle.ghg_definitions.specs.Data.{Data, line}
use Rattle.ghg_keycat.specs.Ranking.{key_order}
use Rattle.ghg_tables.specs.declared.precision.Precision.{Precision}
use Rattle.ghg_tables.specs.declared.precision.Precision.TheVariants.{Thousandths}
use Rattle.ghg_tables.specs.Rounding.{places_of, precision_of, nearest, reported}
use Rattle.ghg_tables.specs.Texts.{cell_text, figures_text, three_decimals}

-- low / 10^places ≤ f ≤ high / 10^places
pub record Holds (low high : ℤ) (places : ℕ) (f : Fraction) : Type 0 where
  pub above : (low *ℤ pos f.denominator) ≤ℤ (f.numerator *ℤ pos (10 ^ places))
  pub below : (f.numerator *ℤ pos (10 ^ places)) ≤ℤ (high *ℤ pos f.denominator)

-- the three decimals that are printed of a known value, of which the last two hold the fraction
pub record PrintHolds (p : Precision) (point range : Bounds) (f : Fraction) : Type 0 where
  pub low : ℤ
  pub high : ℤ
  pub text : figures_text p (Known point range) ≡ three_decimals p (reported p point) low high
  pub holds : Holds low high (places_of p) f

abbrev pub BoundsHold : Type 0
BoundsHold = (p : Precision) (point range : Bounds) (f : Fraction) → Inside range f →
    PrintHolds p point range f

-- how finely a line is printed
abbrev pub line_precision : Option EqId → Precision
line_precision None = Thousandths
line_precision (Some e) = precision_of (output e)

-- how finely a node is printed
abbrev pub node_precision : Data → Node → Precision
node_precision m (node.Line name year) = line_precision (line m name)
node_precision m _ = Thousandths

-- n is off z / d by no more than half, and where it is off by half it is the one farther from zero
pub record IsNearest (d : ℕ) (z n : ℤ) : Type 0 where
  pub close : 2 * unsigned_abs (pos d *ℤ n -ℤ z) ≤ d
  pub away : 2 * unsigned_abs (pos d *ℤ n -ℤ z) ≡ d → unsigned_abs z ≤ d * unsigned_abs n

abbrev pub NearIsNearest : Type 0
NearIsNearest = (d : ℕ) (z : ℤ) → 0 < d → IsNearest d z (nearest d z)

-- a value that is known exactly, in parts of 10^-12 of the base unit
abbrev pub exact : ℤ → Input
exact z = Known (exactly z) (exactly z)

-- the text of the row of a line with such a value
abbrev pub row_text : List ℕ → EqId → Result Input Over → Option (List ℕ)
row_text name e (Ok value) = Some (cell_text name C1A1a e value)
row_text name e (Err over) = None

-- 1000 TJ, and 56100 kg/TJ, from 54300 to 58300
abbrev pub activity : Input
activity = exact (pos 1000000000000000)

abbrev pub factor : Input
factor =
    Known
    (exactly (pos 56100000000000000))
    (record { lo = pos 54300000000000000; hi = pos 58300000000000000 })

abbrev pub PowerPlantPrints : Type 0
PowerPlantPrints = row_text (codes "ELEC.GAS") Q10 (equation_value Q10 (activity ∷ factor ∷ [])) ≡
    Some (codes "ELEC.GAS,1A1a,Q10,CO2,Gg,56.100,54.300,58.300\n")

-- the energy of 2000 t of a fuel of 48 TJ/Gg
abbrev pub energy : Result Input Over
energy = equation_value Q13 (exact (pos 2000000000000000) ∷ exact (pos 48000000000000) ∷ [])

-- and the fuel burnt, at 56100 kg/TJ
abbrev pub emission : Result Input Over
emission = then energy (λ e. equation_value Q10 (e ∷ exact (pos 56100000000000000) ∷ []))

abbrev pub BurntFuelPrints : Type 0
BurntFuelPrints =
    (row_text (codes "CONV") Q13 energy ≡ Some (codes "CONV,1A1a,Q13,-,TJ,96.000000,96.000000,96.000000\n")) ×
    (row_text (codes "GAS") Q10 emission ≡ Some (codes "GAS,1A1a,Q10,CO2,Gg,5.386,5.385,5.386\n"))

-- the text of a value that is known exactly
abbrev pub exact_text : ℤ → List ℕ
exact_text z = figures_text Thousandths (exact z)

-- 0.0005 and -0.0005
abbrev pub SmallestPrints : Type 0
SmallestPrints =
    (exact_text (pos 500000000) ≡ codes "0.001,0.000,0.001") ×
    (exact_text (negsuc 499999999) ≡ codes "-0.001,-0.001,0.000")

-- each category of the tree with each gas, as tables list them
abbrev pub listed_pairs : List (Category × Gas)
listed_pairs = flat_map (λ c. map (λ g. (c, g)) gases) tree

-- They stand in the order that decides among pairs of one size.
abbrev pub PairsStandInOrder : Type 0
PairsStandInOrder = IsStrictlySortedBy key_order listed_pairs
