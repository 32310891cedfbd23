-- Lines by their places among names in order.
use Rattle.std.specs.Prelude.{◌≡◌, ℕ, ◌<◌, Bool, true, false, List, [], ◌∷◌, length, map, slice_index_or, Option, Some}
use Rattle.std.specs.List.{flat_map}
use Rattle.std.specs.Option.{option_map_or}
use Rattle.ghg_equations.specs.Table.{parameters}
use Rattle.ghg_units.specs.declared.row.Binding.{Binding}
use Rattle.ghg_units.specs.declared.row.Binding.TheVariants as bound
use Rattle.ghg_definitions.specs.Data.{Data, Name, binding, line}
use Rattle.ghg_definitions.specs.Rings.{taken_by}
use Rattle.ghg_definitions.specs.Listed.{IsListed}
use Rattle.ghg_graph.specs.Links.{Links, targets_of}

abbrev pub name_at : List Name → ℕ → Name
name_at lines number = slice_index_or lines number []

-- the numbers are those of such of the names as are among the lines
pub record AreNumbers (lines : List Name) (numbers : List ℕ) (names : List Name) : Type 0 where
  pub within : (number : ℕ) → IsListed number numbers → number < length lines
  pub named : (number : ℕ) → IsListed number numbers → IsListed (name_at lines number) names
  pub complete : (name : Name) → IsListed name names → IsListed name lines →
      IsListed name (map (name_at lines) numbers)

-- the lines whose values a binding takes: those of the same year, or those of the year before
abbrev pub taken_in : Bool → Option Binding → List Name
taken_in false b = taken_by b
taken_in true (Some (bound.Prev k)) = k ∷ []
taken_in true _ = []

-- the lines that a line takes by the parameters of its equation
abbrev pub lines_taken : Bool → Data → Name → List Name
lines_taken before m name = option_map_or
    (λ e. flat_map (λ q. taken_in before (binding m name q.name)) (parameters e)) (line m name) []

-- for each of the lines the numbers of those of them that it takes
pub record IsNumbering (before : Bool) (m : Data) (lines : List Name) (links : Links) : Type 0 where
  pub count : length links ≡ length lines
  pub targets : (number : ℕ) → number < length lines → AreNumbers lines (targets_of links number)
      (lines_taken before m (name_at lines number))

-- the names are those of lines by numbers of which P holds
pub record AreNamesOf (lines : List Name) (P : List ℕ → Type 0) (names : List Name) : Type 0 where
  pub numbers : List ℕ
  pub holds : P numbers
  pub named : names ≡ map (name_at lines) numbers
