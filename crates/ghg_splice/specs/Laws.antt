-- What is said of the definitions alone.
use Rattle.std.specs.Prelude.{◌≡◌, ℕ, List, [], ◌∷◌, Option, Some, None, Ok, ⊤}
use Rattle.ghg_interval.specs.Bounds.{Inside}
use Rattle.ghg_interval.specs.Fractions.{Fraction}
use Rattle.ghg_splice.specs.declared.fills.Fill.{Fill}
use Rattle.ghg_splice.specs.declared.method.Method.{Method}
use Rattle.ghg_splice.specs.declared.quantity.Quantity.{Quantity}
use Rattle.ghg_splice.specs.declared.series.Row.{Row}
use Rattle.ghg_splice.specs.Fills.{fills_of}
use Rattle.ghg_splice.specs.Quantities.{fractions, quantities}
use Rattle.ghg_splice.specs.Series.{rows_in}

-- a fraction stands where a quantity is supplied, inside its bounds
abbrev pub IsSupplied : Option Quantity → Option Fraction → Type 0
IsSupplied None None = ⊤
IsSupplied (Some q) (Some f) = Inside q.range f
IsSupplied _ _ = ⊥

-- a row with fractions chosen inside the bounds of its quantities
pub record IsChosen (row : Row Quantity) (choice : Row Fraction) : Type 0 where
  pub year : row.year ≡ choice.year
  pub y : IsSupplied row.y choice.y
  pub x : IsSupplied row.x choice.x

-- the same of each row
abbrev pub AreChosen : List (Row Quantity) → List (Row Fraction) → Type 0
AreChosen [] [] = ⊤
AreChosen (row ∷ rows) (choice ∷ choices) = IsChosen row choice × AreChosen rows choices
AreChosen _ _ = ⊥

-- the bounds, where there are any, hold what the formula gives of fractions
abbrev pub IsHeld : Option Quantity → Option Fraction → Type 0
IsHeld None f = ⊤
IsHeld (Some q) None = ⊥
IsHeld (Some q) (Some f) = Inside q.range f

-- each year is filled, and what fills it holds what the formula gives of fractions
abbrev pub AreHeld : List (Fill Quantity) → List (Fill Fraction) → Type 0
AreHeld [] [] = ⊤
AreHeld (fill ∷ fills) (exact ∷ exacts) =
    (fill.year ≡ exact.year) × IsHeld fill.value exact.value × AreHeld fills exacts
AreHeld _ _ = ⊥

-- For every choice of exact fractions inside the supplied bounds, the fractions that the formula of a
-- technique gives of them are inside the bounds of what fills the years.
abbrev pub FillsHoldExactFractions : Type 0
FillsHoldExactFractions =
    (method : Method) (rows : List (Row Quantity)) (choices : List (Row Fraction)) →
    AreChosen rows choices → AreHeld (fills_of quantities method rows) (fills_of fractions method choices)

-- the same of the rows of a body
abbrev pub HoldsExactFractions : Method → List ℕ → Type 0
HoldsExactFractions method body =
    (rows : List (Row Quantity)) (choices : List (Row Fraction)) → rows_in body ≡ Ok rows →
    AreChosen rows choices → AreHeld (fills_of quantities method rows) (fills_of fractions method choices)
