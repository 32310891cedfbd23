-- The body of a submission that enters the filled years.
use Rattle.std.specs.Prelude.{ℕ, Bool, nat_lt, ◌&&◌, ℤ, unsigned_abs, ◌+ℤ◌, List, [], ◌∷◌, ◌++◌, Option, Some, None, if◌then◌else◌, Result, Ok, Err, codes, decimal}
use Rattle.std.specs.Str.{bytes_eq}
use Rattle.ghg_interval.specs.Bounds.{Bounds, bound_limit}
use Rattle.ghg_interval.specs.Rounding.{floor_by}
use Rattle.ghg_units.specs.Fixed.{fixed_text}
use Rattle.ghg_units.specs.Units.{word_of}
use Rattle.ghg_splice.specs.declared.fills.Fill.{Fill}
use Rattle.ghg_splice.specs.declared.method.Method.{Method}
use Rattle.ghg_splice.specs.declared.method.Method.TheVariants.{Linear, Surrogate, Overlap}
use Rattle.ghg_splice.specs.declared.quantity.Quantity.{Quantity}
use Rattle.ghg_splice.specs.declared.refusal.SpliceRefusal.{SpliceRefusal}
use Rattle.ghg_splice.specs.declared.refusal.SpliceRefusal.TheVariants.{Over}
use Rattle.ghg_splice.specs.declared.text.Heading.{Heading}
use Rattle.ghg_splice.specs.Refusals.{joined}

abbrev pub method_word : Method → List ℕ
method_word Linear = codes "linear"
method_word Surrogate = codes "surrogate"
method_word Overlap = codes "overlap"

abbrev pub method_named : List ℕ → Option Method
method_named word =
    if bytes_eq word (codes "linear") then Some Linear else (
    if bytes_eq word (codes "surrogate") then Some Surrogate else (
    if bytes_eq word (codes "overlap") then Some Overlap else None))

-- a text and a comma
unfoldable pub field_text : List ℕ → List ℕ
field_text text = text ++ codes ","

-- a number in 10^-12 with all its decimals, and a comma
unfoldable pub number_text : ℤ → List ℕ
number_text n = field_text (fixed_text n 12)

-- half the sum of the bounds, rounded down
abbrev pub middle : Bounds → ℤ
middle b = floor_by 2 (b.lo +ℤ b.hi)

-- the middle of the point, and the bounds of the range
unfoldable pub figures_text : Quantity → List ℕ
figures_text q = number_text (middle q.point) ++ number_text q.range.lo ++ number_text q.range.hi

unfoldable pub subject_text : Heading → ℕ → List ℕ
subject_text h year = field_text (codes "enter,activity,") ++ field_text h.name ++ field_text (decimal year)

unfoldable pub line_text : Heading → ℕ → Quantity → List ℕ
line_text h year q =
    subject_text h year ++ figures_text q ++ field_text (word_of h.unit) ++ method_word h.method ++ codes "\n"

-- both bounds are below the limit in magnitude, so that each has no more digits than a decimal
abbrev pub is_printable : Bounds → Bool
is_printable b = nat_lt (unsigned_abs b.lo) bound_limit && nat_lt (unsigned_abs b.hi) bound_limit

-- the line of a year, or over
abbrev pub line_in : Heading → ℕ → Option Quantity → Result (List ℕ) SpliceRefusal
line_in h year None = Err (Over year)
line_in h year (Some q) = if is_printable q.range then Ok (line_text h year q) else Err (Over year)

-- the line of each year in turn, or the first year that is over
unfoldable pub lines_in : Heading → List (Fill Quantity) → Result (List ℕ) SpliceRefusal
lines_in h [] = Ok []
lines_in h (fill ∷ fills) = joined (line_in h fill.year fill.value) (lines_in h fills)

-- the same under the header
unfoldable pub printed_in : Heading → List (Fill Quantity) → Result (List ℕ) SpliceRefusal
printed_in h fills =
    joined (Ok (codes "act,kind,subject,name,year,value,low,high,unit,note\n")) (lines_in h fills)
