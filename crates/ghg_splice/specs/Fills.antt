-- The years that a technique fills, over any arithmetic.
use Rattle.std.specs.Prelude.{ℕ, ◌+◌, ◌-◌, nat_lt, List, [], ◌∷◌, ◌++◌, length, map, take, find, filter_map, Option, Some, None, is_some, if◌then◌else◌, Result, Ok, Err}
use Rattle.std.specs.List.{range_with_len}
use Rattle.std.specs.Option.{option_map}
use Rattle.ghg_interval.specs.Operations.{holds_zero}
use Rattle.ghg_units.specs.Steps.{◌>>=◌}
use Rattle.ghg_splice.specs.declared.fills.Fill.{Fill}
use Rattle.ghg_splice.specs.declared.formulas.Base.{Base}
use Rattle.ghg_splice.specs.declared.formulas.Known.{Known}
use Rattle.ghg_splice.specs.declared.method.Method.{Method}
use Rattle.ghg_splice.specs.declared.method.Method.TheVariants.{Linear, Surrogate}
use Rattle.ghg_splice.specs.declared.quantity.Quantity.{Quantity}
use Rattle.ghg_splice.specs.declared.refusal.SpliceRefusal.{SpliceRefusal}
use Rattle.ghg_splice.specs.declared.refusal.SpliceRefusal.TheVariants.{NoBase, ZeroRange}
use Rattle.ghg_splice.specs.declared.series.Row.{Row}
use Rattle.ghg_splice.specs.Formulas.{linear, overlap, surrogate}
use Rattle.ghg_splice.specs.Quantities.{Arithmetic, quantities}

-- ---- linear interpolation

-- the year of a row, and its y
abbrev pub known_in : {A : Type 0} → Row A → Option (Known A)
known_in row = option_map (λ y. record { year = row.year; y = y }) row.y

abbrev pub known_of : {A : Type 0} → List (Row A) → List (Known A)
known_of rows = filter_map known_in rows

abbrev pub interpolated : {A : Type 0} → Arithmetic A → Known A → Known A → ℕ → Fill A
interpolated m a b year = record { year = year; value = linear m a year b }

-- the years between two known ones
unfoldable pub gap : {A : Type 0} → Arithmetic A → Known A → Known A → List (Fill A)
gap m a b = map (interpolated m a b) (range_with_len (a.year + 1) (b.year - (a.year + 1)))

abbrev pub gap_after : {A : Type 0} → Arithmetic A → Known A → List (Known A) → List (Fill A)
gap_after m a [] = []
gap_after m a (b ∷ known) = gap m a b

-- the years between all known neighbours
unfoldable pub gaps : {A : Type 0} → Arithmetic A → List (Known A) → List (Fill A)
gaps m [] = []
gaps m (a ∷ known) = gap_after m a known ++ gaps m known

-- ---- surrogate data and overlap

-- the year of a row that has both y and x
abbrev pub base_in : {A : Type 0} → Row A → Option (Base A)
base_in row = do
  y ← row.y
  x ← row.x
  Some (record { year = row.year; y = y; x = x })

-- the first of such years for surrogate data, and each of them for overlap
abbrev pub bases_of : {A : Type 0} → Method → List (Row A) → List (Base A)
bases_of Surrogate rows = take 1 (filter_map base_in rows)
bases_of _ rows = filter_map base_in rows

abbrev pub proportional : {A : Type 0} → Arithmetic A → Method → List (Base A) → A → Option A
proportional m Surrogate bases x = surrogate m bases x
proportional m _ bases x = overlap m bases x

-- the year of a row that has x and no y
abbrev pub fill_from_x : {A : Type 0} → (A → Option A) → Row A → Option (Fill A)
fill_from_x formula row =
    if is_some row.y then None
    else option_map (λ x. record { year = row.year; value = formula x }) row.x

-- ---- all techniques

-- the years to fill, in their order
abbrev pub fills_of : {A : Type 0} → Arithmetic A → Method → List (Row A) → List (Fill A)
fills_of m Linear rows = gaps m (known_of rows)
fills_of m method rows = filter_map (fill_from_x (proportional m method (bases_of method rows))) rows

-- no base, or the first one whose range of x holds zero
abbrev pub fault_of : List (Base Quantity) → Option SpliceRefusal
fault_of [] = Some NoBase
fault_of (base ∷ bases) =
    option_map (λ b. ZeroRange b.year) (find (λ b. holds_zero b.x.range) (base ∷ bases))

-- why there is nothing to fill the years from
abbrev pub base_fault : Method → List (Row Quantity) → Option SpliceRefusal
base_fault Linear rows = if nat_lt (length (known_of rows)) 2 then Some NoBase else None
base_fault method rows = fault_of (bases_of method rows)

abbrev pub unless : {X : Type 0} → Option SpliceRefusal → X → Result X SpliceRefusal
unless (Some refusal) x = Err refusal
unless None x = Ok x

-- the years to fill, or why there is nothing to fill them from
unfoldable pub fills_in : Method → List (Row Quantity) → Result (List (Fill Quantity)) SpliceRefusal
fills_in method rows = unless (base_fault method rows) (fills_of quantities method rows)
