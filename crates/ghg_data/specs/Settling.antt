-- What may leave a binding unsound that no change is about: an activity or a factor that loses its dimension,
-- and a line that loses its equation.
use Rattle.std.specs.Prelude.{◌≡◌, Bool, true, false, not, List, ◌++◌, flat_map, fold, Option}
use Rattle.std.specs.List.{list_any}
use Rattle.std.specs.Option.{option_map_or}
use Rattle.ghg_equations.specs.contracts.eq_id.EqIdPartialEq.TheImpl as derived
use Rattle.ghg_equations.specs.declared.eq_id.EqId.{EqId}
use Rattle.ghg_units.specs.declared.row.Figure.{Figure}
use Rattle.ghg_units.specs.Units.{dim_of}
use Rattle.ghg_definitions.specs.declared.place.Place.{Place}
use Rattle.ghg_definitions.specs.declared.record.RecordKey.{RecordKey}
use Rattle.ghg_definitions.specs.declared.record.RecordKey.TheVariants as key
use Rattle.ghg_definitions.specs.Data.{Data, line}
use Rattle.ghg_definitions.specs.Listed.{IsListed}
use Rattle.ghg_definitions.specs.Rules.{activities, are_of, factors}
use Rattle.ghg_data.specs.declared.series.Series.{Series}
use Rattle.ghg_data.specs.declared.series.Series.TheVariants as series
use Rattle.ghg_data.specs.Faults.{considered, is_fault, key_places}

-- the figures of all records of an activity or a factor
abbrev pub figures_of : Data → Series → List Figure
figures_of m (series.Activity name) = activities m name
figures_of m (series.Factor name) = factors m name

-- some figure that it has in m is of a dimension of which its figures in n are not
abbrev pub loses_dimension : Data → Data → Series → Bool
loses_dimension m n s = list_any (λ f. not (are_of (dim_of f.unit) (figures_of n s))) (figures_of m s)

-- what `==` says of equations
abbrev pub same_equation : EqId → EqId → Bool
same_equation = (derived.ghosts).eq

-- the line has an equation in m, and in n another one or none
abbrev pub loses_equation : Data → Data → RecordKey → Bool
loses_equation m n (key.Line name) =
    option_map_or (λ e. not (option_map_or (same_equation e) (line n name) false)) (line m name) false
loses_equation m n _ = false

-- nothing does
pub record IsSettled (m n : Data) : Type 0 where
  pub names : (s : Series) → loses_dimension m n s ≡ false
  pub lines : (k : RecordKey) → loses_equation m n k ≡ false

-- the least fault, once places were looked at among which is each fault that no key is about
abbrev pub HasLooked : Data → List RecordKey → Option Place → Option Place → Type 0
HasLooked n keys old new = (ps : List Place) × (new ≡ fold (considered n) old ps) ×
    ((p : Place) → is_fault n p ≡ true → IsListed p (ps ++ flat_map (key_places n) keys))
