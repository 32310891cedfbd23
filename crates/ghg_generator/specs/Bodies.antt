-- The bodies of the submissions.
use Rattle.std.specs.Prelude.{ℕ, zero, suc, ◌+◌, ◌-◌, ◌/◌, ◌%◌, List, [], ◌∷◌, ◌++◌, get_or, codes, decimal}
use Rattle.ghg_generator.specs.Draws.{drawn, next}

abbrev pub header : List ℕ
header = codes "act,kind,subject,name,year,value,low,high,unit,note\n"

-- the span, and the global warming potentials of three gases
abbrev pub opening_body : List ℕ
opening_body = header ++ codes "enter,span,,,1990,2020,1990,,,\n"
    ++ codes "enter,factor,,GWP.CO2,1990,1,,,1,\n"
    ++ codes "enter,factor,,GWP.CH4,1990,25,,,1,\n"
    ++ codes "enter,factor,,GWP.N2O,1990,298,,,1,\n"

-- ---- the body of a line

-- the last four digits of a line's place
unfoldable pub four_digits : ℕ → List ℕ
four_digits place = decimal (place / 1000 % 10) ++ decimal (place / 100 % 10)
    ++ decimal (place / 10 % 10) ++ decimal (place % 10)

-- the categories and the equations are taken in turn
unfoldable pub category_of : ℕ → List ℕ
category_of rest = get_or (codes "1A1a" ∷ codes "1A1b" ∷ codes "1A1c" ∷ codes "1A2" ∷ codes "1A3a"
    ∷ codes "1A3b" ∷ codes "1A3c" ∷ codes "1A4a" ∷ codes "1A4b" ∷ codes "1A5" ∷ []) rest []

unfoldable pub equation_of : ℕ → List ℕ
equation_of rest = get_or (codes "Q10" ∷ codes "Q11" ∷ codes "Q12" ∷ []) rest []

-- pieces of a text, one after the other
abbrev pub joined : List (List ℕ) → List ℕ
joined [] = []
joined (piece ∷ pieces) = piece ++ joined pieces

-- the line
unfoldable pub line_row : List ℕ → ℕ → List ℕ
line_row digits place = joined (
    codes "enter,line," ∷ category_of ((place - 1) % 10) ∷ codes ",L" ∷ digits
    ∷ codes ",," ∷ equation_of ((place - 1) % 3) ∷ codes ",,,,\n" ∷ [])

-- its bindings
unfoldable pub bind_rows : List ℕ → List ℕ
bind_rows digits = joined (
    codes "enter,bind,L" ∷ digits ∷ codes ",FC,,activity,A" ∷ digits
    ∷ codes ",,,\nenter,bind,L" ∷ digits ∷ codes ",EF,,factor,F" ∷ digits ∷ codes ",,,\n" ∷ [])

-- its factor, with the bounds 100 less and 100 more
unfoldable pub factor_row : List ℕ → ℕ → List ℕ
factor_row digits draw =
    let value = 1000 + draw % 9000 in
    joined (codes "enter,factor,,F" ∷ digits ∷ codes ",1990," ∷ decimal value ∷ codes ","
    ∷ decimal (value - 100) ∷ codes "," ∷ decimal (value + 100) ∷ codes ",kg/TJ,\n" ∷ [])

-- its activity of a year, with the bounds 5 less and 5 more
unfoldable pub activity_row : List ℕ → ℕ → ℕ → List ℕ
activity_row digits year draw =
    let value = 100 + draw % 900 in
    joined (codes "enter,activity,,A" ∷ digits ∷ codes "," ∷ decimal year ∷ codes "," ∷ decimal value
    ∷ codes "," ∷ decimal (value - 5) ∷ codes "," ∷ decimal (value + 5) ∷ codes ",TJ,\n" ∷ [])

-- the activities of so many years from 1990 on, the last year first, drawn after this number
unfoldable pub activity_rows : ℕ → List ℕ → ℕ → List ℕ
activity_rows zero digits x = []
activity_rows (suc years) digits x =
    activity_row digits (1990 + years) (drawn (next x)) ++ activity_rows years digits (next x)

-- the body of the line of this place, from 1, drawn after this number
unfoldable pub line_body : ℕ → ℕ → List ℕ
line_body place x =
    let digits = four_digits place in
    header ++ line_row digits place ++ bind_rows digits ++ factor_row digits (drawn (next x))
    ++ activity_rows 31 digits (next x)
