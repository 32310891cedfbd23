-- Gases by their words, and when two dimensions are the same.
use Rattle.std.specs.Prelude.{ℕ, Bool, List, [], ◌∷◌, Option, Some, None, codes}
use Rattle.ghg_equations.specs.declared.quantity.Dim.{Dim}
use Rattle.ghg_equations.specs.declared.quantity.Gas.{Gas}
use Rattle.ghg_equations.specs.declared.quantity.Gas.TheVariants.{Co2, Ch4, N2o, Cf4, C2f6}
use Rattle.ghg_equations.specs.declared.quantity.Output.{Output}
use Rattle.ghg_equations.specs.declared.quantity.Output.TheVariants.{Emission, Aux}
use Rattle.ghg_equations.specs.contracts.quantity.DimPartialEq.TheImpl as derived

abbrev pub same_dim : Dim → Dim → Bool
same_dim = (derived.ghosts).eq

-- the gas as it is written
abbrev pub word_of : Gas → List ℕ
word_of Co2 = codes "CO2"
word_of Ch4 = codes "CH4"
word_of N2o = codes "N2O"
word_of Cf4 = codes "CF4"
word_of C2f6 = codes "C2F6"

-- each gas, in the order in which tables list them
abbrev pub gases : List Gas
gases = Co2 ∷ Ch4 ∷ N2o ∷ Cf4 ∷ C2f6 ∷ []

-- the gas of an emission
abbrev pub gas_of : Output → Option Gas
gas_of (Emission gas) = Some gas
gas_of (Aux dim) = None
