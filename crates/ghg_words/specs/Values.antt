-- The values of options.
use Rattle.std.specs.Prelude.{ℕ, Bool, ◌&&◌, ◌||◌, not, List, length, ◌==◌, nat_lt, nat_le, slice_index, if◌then◌else◌, Option, Some, None}
use Rattle.std.specs.List.{list_all}
use Rattle.std.specs.Char.{is_ascii_alphanumeric, is_ascii_digit}
use Rattle.std.specs.Str.Parse.{digits_value}

-- a number of 1 to 10 digits between two bounds
unfoldable pub number_within : ℕ → ℕ → List ℕ → Option ℕ
number_within low high text =
    if nat_lt 0 (length text) && nat_le (length text) 10 && list_all is_ascii_digit text
    && nat_le low (digits_value 10 text) && nat_le (digits_value 10 text) high
    then Some (digits_value 10 text) else None

-- a letter, a digit, a point, an underscore or a dash
abbrev pub is_store_byte : ℕ → Bool
is_store_byte b = is_ascii_alphanumeric b || b == 46 || b == 95 || b == 45

-- 1 to 64 such bytes, of which the first is no point and no dash
unfoldable pub is_store_name : List ℕ → Bool
is_store_name text =
    nat_lt 0 (length text) && nat_le (length text) 64
    && not (slice_index text 0 == 46) && not (slice_index text 0 == 45) && list_all is_store_byte text

-- the name of a store that the text is
abbrev pub store_name : List ℕ → Option (List ℕ)
store_name text = if is_store_name text then Some text else None
