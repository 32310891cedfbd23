-- The words of a line.
use Rattle.std.specs.Prelude.{◌≡◌, ℕ, Bool, true, ◌&&◌, List, length, take, drop, Option, Some, None, ◌==◌, nat_le, if◌then◌else◌}
use Rattle.std.specs.Str.{bytes_eq}
use Rattle.ghg_units.specs.Decimal.{number_in}
use Rattle.ghg_script.specs.declared.word.TheConstants.{YEAR_DIGITS}
use Rattle.ghg_script.specs.Commands.{lacks}

-- what follows a word that bytes begin with
abbrev pub after_word : List ℕ → List ℕ → Option (List ℕ)
after_word word bytes =
    if bytes_eq (take (length word) bytes) word then Some (drop (length word) bytes) else None

abbrev pub has_length : ℕ → ℕ → List ℕ → Bool
has_length fewest most bytes = nat_le fewest (length bytes) && nat_le (length bytes) most

-- the year that four digits write
abbrev pub year_in : List ℕ → Option ℕ
year_in digits = if length digits == YEAR_DIGITS then number_in YEAR_DIGITS digits else None

-- ---- the same, as a reader says it

-- an id, or the name of a version: 1 to 60 bytes, none of which is a space
abbrev pub IsWord : List ℕ → Type 0
IsWord word = (has_length 1 60 word ≡ true) × (lacks 32 word ≡ true)

-- four digits, and the year that they write
abbrev pub IsYear : List ℕ → ℕ → Type 0
IsYear digits year = (length digits ≡ 4) × (number_in 4 digits ≡ Some year)
