-- What a reader keeps of the lines that it read last.
use Rattle.std.specs.Prelude.{◌≡◌, ℕ, List, map, Option, Some, option_copied, IfSome}
use Rattle.std.specs.Borrow.{Bor}
use Rattle.std.specs.List.{AllByRecursion}
use Rattle.ghg_equations.specs.declared.eq_id.EqId.{EqId}
use Rattle.ghg_equations.specs.Table.{parameters}
use Rattle.ghg_units.specs.declared.row.Binding.{Binding}
use Rattle.ghg_definitions.specs.Compilation.{first_year, line_gas}
use Rattle.ghg_definitions.specs.Data.{Data, Name, binding, line, span}
use Rattle.ghg_data.specs.Lasting.{IsLasting}
use Rattle.ghg_shifts.specs.Noted.{emitted_at}
use Rattle.ghg_evaluation.specs.declared.emission.LastEmission.{LastEmission}
use Rattle.ghg_evaluation.specs.declared.kept.Factors.{Factors}
use Rattle.ghg_evaluation.specs.declared.kept.KeptFactor.{KeptFactor}
use Rattle.ghg_evaluation.specs.declared.kept.LastLine.{LastLine}

-- what the parameters of an equation are bound to at a line
abbrev pub bindings_of : Data → Name → EqId → List (Option Binding)
bindings_of m name id = map (λ q. binding m name q.name) (parameters id)

-- the bindings behind references
abbrev pub copied : List (Option (Bor Binding)) → List (Option Binding)
copied bs = map (λ b. option_copied b) bs

-- the line's equation, and what its parameters are bound to
pub record IsLine (m : Data) (bindings : List (Option Binding)) (l : Name × EqId) : Type 0 where
  pub equation : line m l.0 ≡ Some l.1
  pub bindings_are : bindings ≡ bindings_of m l.0 l.1

abbrev pub IsLastLine : Data → LastLine → Type 0
IsLastLine m last = IfSome last.line (IsLine m (copied last.bindings.items))

-- the gas that the line emits, and the category at which it does
pub record IsEmission (m : Data) (emission : LastEmission) (name : Name) : Type 0 where
  pub gas : emission.gas ≡ line_gas m name
  pub category : emission.category ≡ emitted_at m name

abbrev pub IsLastEmission : Data → LastEmission → Type 0
IsLastEmission m emission = IfSome emission.line (IsEmission m emission)

-- the factor of this name gives what is kept, in the years for which it is
abbrev pub IsKeptFactor : Data → KeptFactor → Type 0
IsKeptFactor m f = IsLasting m f.name f.lasting

abbrev pub AreKeptFactors : Data → Factors → Type 0
AreKeptFactors m factors = AllByRecursion (IsKeptFactor m) factors.kept.items

-- what is kept is what the records give
pub record IsReader (m : Data) (first : ℕ) (last : LastLine) (emission : LastEmission) (factors : Factors)
    : Type 0 where
  pub first_is : first ≡ first_year (span m)
  pub line_is : IsLastLine m last
  pub emission_is : IsLastEmission m emission
  pub factors_are : AreKeptFactors m factors
