-- The formats of bodies.
use Rattle.std.specs.Prelude.{ℕ, Bool, List, [], ◌∷◌, drop, nat_eq, ◌||◌, if◌then◌else◌, codes}
use Rattle.std.specs.List.{starts_with}

-- a body after its byte order mark, if there is one
abbrev pub after_mark : List ℕ → List ℕ
after_mark body = if starts_with nat_eq body (239 ∷ 187 ∷ 191 ∷ []) then drop 3 body else body

-- whether a text begins with these bytes
abbrev pub begins_with : List ℕ → List ℕ → Bool
begins_with first text = starts_with nat_eq text first

-- 2 where the first name of the header is `act2`, with quotes or without, and otherwise 1
abbrev pub format_in : List ℕ → ℕ
format_in body =
    if begins_with (codes "act2,") (after_mark body) || begins_with (codes "\"act2\",") (after_mark body)
    then 2 else 1
