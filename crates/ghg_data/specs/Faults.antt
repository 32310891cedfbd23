-- Places with an unsound binding, and the least among several.
use Rattle.std.specs.Prelude.{Bool, false, not, ◌&&◌, ◌||◌, is_some, option_and_then, if◌then◌else◌, List, [], ◌∷◌, Option, Some, None}
use Rattle.std.specs.List.{find, list_any}
use Rattle.std.specs.Option.{option_map, option_map_or}
use Rattle.std.specs.Str.{bytes_eq}
use Rattle.ghg_equations.specs.declared.eq_id.EqId.{EqId}
use Rattle.ghg_equations.specs.declared.quantity.Dim.{Dim}
use Rattle.ghg_equations.specs.Table.{parameters}
use Rattle.ghg_definitions.specs.declared.place.Place.{Place}
use Rattle.ghg_definitions.specs.declared.record.RecordKey.{RecordKey}
use Rattle.ghg_definitions.specs.declared.record.RecordKey.TheVariants as key
use Rattle.ghg_definitions.specs.Data.{Data, Name, binding, first_name, line, uncertainty}
use Rattle.ghg_definitions.specs.Rules.{is_sound, is_uncertainty, lesser_place, places_in}
use Rattle.ghg_units.specs.Parameter.{uncertainty_word}

-- the equation has the parameter
abbrev pub takes : EqId → Name → Bool
takes e parameter = list_any (λ q. bytes_eq q.name parameter) (parameters e)

-- what a parameter measures, where its line is present and takes it
abbrev pub dim_of_place : Data → Place → Option Dim
dim_of_place m p =
    option_and_then (λ e. option_map (λ q. q.dim) (find (λ q. bytes_eq q.name p.parameter) (parameters e)))
    (line m p.line)

-- a line that is present takes the parameter, or a binding names it
abbrev pub is_parameter_place : Data → Place → Bool
is_parameter_place m p = is_some (binding m p.line p.parameter) || option_map_or (λ e. takes e p.parameter)
    (line m p.line) false

-- so it is; or the place is that of an uncertainty record that the line has
abbrev pub is_place : Data → Place → Bool
is_place m p = if is_uncertainty p then is_some (uncertainty m p.line) else is_parameter_place m p

abbrev pub is_fault : Data → Place → Bool
is_fault m p = is_place m p && not (is_sound m p)

-- the least fault so far, once this place is looked at
abbrev pub considered : Data → Option Place → Place → Option Place
considered m least p = if is_fault m p then Some (lesser_place p least) else least

-- the parameters of a line's equation
abbrev pub line_places : Data → Name → List Place
line_places m name = places_in (key.Line name) (line m name)

-- the place of a line's uncertainty record
abbrev pub uncertainty_place : Name → Place
uncertainty_place name = record { line = name; parameter = uncertainty_word }

-- the places of a key with the equation of its line; of a line that is absent, that of its uncertainty record
abbrev pub places_about : RecordKey → Option EqId → List Place
places_about (key.Line name) None = uncertainty_place name ∷ []
places_about k e = places_in k e

-- the places that a key is about
abbrev pub key_places : Data → RecordKey → List Place
key_places m k = places_about k (line m (first_name k))
