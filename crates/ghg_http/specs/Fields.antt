-- What the fields of a head say of the body. Fields may be of any type that has a name, and a value without
-- the white space around it.
use Rattle.std.specs.Prelude.{ℕ, Bool, ◌&&◌, not, List, length, nat_lt, nat_le, if◌then◌else◌, Option, Some, None, option_map, codes, bytes_eq, find}
use Rattle.std.specs.List.{list_all, list_any}
use Rattle.std.specs.Char.{is_ascii_digit}
use Rattle.std.specs.Str.{str_eq_ignore_ascii_case}
use Rattle.std.specs.Str.Parse.{digits_value}
use Rattle.ghg_http.specs.declared.fields.Field.{Field}
use Rattle.ghg_http.specs.declared.fields.Framing.{Framing}
use Rattle.ghg_http.specs.declared.fields.Length.{Length}
use Rattle.ghg_http.specs.declared.fields.Length.TheVariants.{Missing, Malformed, Given}

-- a name and a value
abbrev pub Parts : Type 0
Parts = List ℕ × List ℕ

abbrev pub field_parts : Field → Parts
field_parts f = (f.name.now, f.value.now)

-- names are compared without regard to ASCII case
abbrev pub is_named : List ℕ → Parts → Bool
is_named name f = str_eq_ignore_ascii_case f.0 name

-- 1 to 10 digits
abbrev pub is_length : List ℕ → Bool
is_length value = nat_lt 0 (length value) && nat_le (length value) 10 && list_all is_ascii_digit value

-- the number that a length gives
unfoldable pub length_of : List ℕ → Option ℕ
length_of value = if is_length value then Some (digits_value 10 value) else None

-- a length that differs as text from the first
abbrev pub is_other_length : List ℕ → Parts → Bool
is_other_length first f = is_named (codes "content-length") f && not (bytes_eq f.1 first)

-- a coding other than `identity`
abbrev pub is_coding : Parts → Bool
is_coding f = is_named (codes "content-encoding") f && not (str_eq_ignore_ascii_case f.1 (codes "identity"))

abbrev pub given_length : Option ℕ → Length
given_length None = Malformed
given_length (Some n) = Given n

module _ {X : Type 0} (parts : X → Parts) where
  -- some field has the name
  abbrev pub has_field : List ℕ → List X → Bool
  has_field name fields = list_any (λ f. is_named name (parts f)) fields

  -- the value of the first field that has the name
  abbrev pub first_value : List ℕ → List X → Option (List ℕ)
  first_value name fields = option_map (λ f. (parts f).1) (find (λ f. is_named name (parts f)) fields)

  -- some length differs as text from the first
  abbrev pub has_other_length : List ℕ → List X → Bool
  has_other_length first fields = list_any (λ f. is_other_length first (parts f)) fields

  abbrev pub is_coded : List X → Bool
  is_coded fields = list_any (λ f. is_coding (parts f)) fields

  abbrev pub length_with : Option (List ℕ) → List X → Length
  length_with None fields = Missing
  length_with (Some first) fields =
      if has_other_length first fields then Malformed else given_length (length_of first)

  -- the length that the fields give
  abbrev pub length_in : List X → Length
  length_in fields = length_with (first_value (codes "content-length") fields) fields

  -- how the fields say that the body is sent
  unfoldable pub framing : List X → Framing
  framing fields = record {
    is_chunked = has_field (codes "transfer-encoding") fields;
    body_length = length_in fields;
    is_coded = is_coded fields;
  }
