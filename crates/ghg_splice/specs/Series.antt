-- The rows of a body.
use Rattle.std.specs.Prelude.{unwrap_or, ℕ, ◌+◌, nat_lt, int_le, Bool, List, [], ◌∷◌, length, ◌==◌, ◌&&◌, Option, Some, None, if◌then◌else◌, Result, Ok, Err, codes}
use Rattle.std.specs.Option.{option_map}
use Rattle.std.specs.Str.{bytes_eq}
use Rattle.csv.specs.Reading.{default_config, records, strip_bom}
use Rattle.csv.specs.Records.{field_at}
use Rattle.ghg_interval.specs.Bounds.{exactly, between}
use Rattle.ghg_units.specs.Decimal.{decimal_in}
use Rattle.ghg_units.specs.Steps.{◌>>=◌}
use Rattle.ghg_units.specs.Year.{year_in}
use Rattle.ghg_splice.specs.declared.quantity.Quantity.{Quantity}
use Rattle.ghg_splice.specs.declared.refusal.SpliceRefusal.{SpliceRefusal}
use Rattle.ghg_splice.specs.declared.refusal.SpliceRefusal.TheVariants.{BadRow}
use Rattle.ghg_splice.specs.declared.series.Row.{Row}
use Rattle.ghg_splice.specs.Refusals.{joined}

-- the fields of a record
abbrev pub Texts : Type 0
Texts = List (List ℕ)

-- the fields of each record of a body, the header's first
abbrev pub records_of : List ℕ → List Texts
records_of body = records default_config (strip_bom body)

-- the field at a place, or nothing
unfoldable pub field : Texts → ℕ → List ℕ
field fields place = unwrap_or (field_at fields place) []

abbrev pub is_empty : List ℕ → Bool
is_empty text = length text == 0

-- a value from its low to its high bound
unfoldable pub between_in : List ℕ → List ℕ → List ℕ → Option Quantity
between_in value low high = do
  v ← decimal_in value
  l ← decimal_in low
  h ← decimal_in high
  if int_le l.scaled v.scaled && int_le v.scaled h.scaled then Some
      (record { point = exactly v.scaled; range = between l.scaled h.scaled })
      else None

-- the same, where two empty bounds are both the value
abbrev pub quantity_in : List ℕ → List ℕ → List ℕ → Option Quantity
quantity_in value low high =
    if is_empty low && is_empty high then between_in value value value else between_in value low high

-- what a value and its bounds supply: nothing where all are empty, else a quantity
unfoldable pub supplied_in : List ℕ → List ℕ → List ℕ → Option (Option Quantity)
supplied_in value low high =
    if is_empty value && is_empty low && is_empty high then Some None
    else option_map Some (quantity_in value low high)

abbrev pub supplied_row : Texts → Option (Row Quantity)
supplied_row fields = do
  year ← year_in (field fields 0)
  y ← supplied_in (field fields 1) (field fields 2) (field fields 3)
  x ← supplied_in (field fields 4) (field fields 5) (field fields 6)
  Some (record { year = year; y = y; x = x })

-- the row that seven fields are
unfoldable pub row_in : Texts → Option (Row Quantity)
row_in fields = if length fields == 7 then supplied_row fields else None

-- the same, of a later year than this one
unfoldable pub row_after : ℕ → Texts → Option (Row Quantity)
row_after after fields = do
  row ← row_in fields
  if nat_lt after row.year then Some row else None

-- a row and what comes after it, or the number of a row that is none
abbrev pub then_rows : ℕ → Option (Row Quantity) → (ℕ → Result (List (Row Quantity)) SpliceRefusal)
    → Result (List (Row Quantity)) SpliceRefusal
then_rows number None later = Err (BadRow number)
then_rows number (Some row) later = joined (Ok (row ∷ [])) (later row.year)

-- what records say, the first with this number and of a later year than that
unfoldable pub rows_from : ℕ → ℕ → List Texts → Result (List (Row Quantity)) SpliceRefusal
rows_from number after [] = Ok []
rows_from number after (fields ∷ rest) =
    then_rows number (row_after after fields) (λ year. rows_from (number + 1) year rest)

-- whether a record is the header
unfoldable pub is_header : Texts → Bool
is_header fields =
    (length fields == 7) && bytes_eq (field fields 0) (codes "year")
    && bytes_eq (field fields 1) (codes "y") && bytes_eq (field fields 2) (codes "y_low")
    && bytes_eq (field fields 3) (codes "y_high") && bytes_eq (field fields 4) (codes "x")
    && bytes_eq (field fields 5) (codes "x_low") && bytes_eq (field fields 6) (codes "x_high")

-- the header has the number 0, and the rows count from 1
abbrev pub under_header : List Texts → Result (List (Row Quantity)) SpliceRefusal
under_header [] = Err (BadRow 0)
under_header (header ∷ rest) = if is_header header then rows_from 1 0 rest else Err (BadRow 0)

-- the rows of a body, or the first that is not as it should be
unfoldable pub rows_in : List ℕ → Result (List (Row Quantity)) SpliceRefusal
rows_in body = under_header (records_of body)
