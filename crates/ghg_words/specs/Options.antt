-- Options: `--name value` in two words, or `--name=value` in one.
use Rattle.std.specs.Prelude.{ℕ, Bool, true, List, [], ◌∷◌, length, drop, map, ◌&&◌, ◌==◌, nat_eq, nat_lt, if◌then◌else◌, Option, Some, None, is_none, option_map, codes}
use Rattle.std.specs.Borrow.{Bor}
use Rattle.std.specs.List.{list_any, starts_with, position_or_len, before_first, after_first}
use Rattle.std.specs.Option.{option_map_or}
use Rattle.std.specs.Str.{bytes_eq}
use Rattle.std.specs.String.{string_bytes}
use Rattle.ghg_words.specs.declared.options.Options as declared

-- ---- a word

abbrev pub is_equals : ℕ → Bool
is_equals b = b == 61

-- what stands after the two dashes of an option
abbrev pub undashed : List ℕ → Option (List ℕ)
undashed word = if starts_with nat_eq word (codes "--") then Some (drop 2 word) else None

-- the name, and the value after the first equals sign
abbrev pub name_and_value : List ℕ → List ℕ × Option (List ℕ)
name_and_value text =
    if nat_lt (position_or_len is_equals text) (length text)
    then (before_first is_equals text, Some (after_first is_equals text)) else (text, None)

-- an option's name and, where it stands in the same word, its value
unfoldable pub option_word : List ℕ → Option (List ℕ × Option (List ℕ))
option_word word = option_map name_and_value (undashed word)

-- ---- the options of a command line

-- names with their values, in the order in which they stand
abbrev pub Options : Type 0
Options = List (List ℕ × List ℕ)

-- one more in front
abbrev pub with_first : List ℕ × List ℕ → Options × List (List ℕ) → Options × List (List ℕ)
with_first option read = (option ∷ read.0, read.1)

-- the options that the words begin with, and the words after them
unfoldable pub leading : List (List ℕ) → Options × List (List ℕ)
leading [] = ([], [])
leading (word ∷ []) =
    option_map_or (λ part. option_map_or (λ value. ((part.0, value) ∷ [], [])) part.1 ([], word ∷ []))
    (option_word word) ([], word ∷ [])
leading (word ∷ next ∷ words) =
    option_map_or (λ part. option_map_or (λ value. with_first (part.0, value) (leading (next ∷ words))) part.1
    (with_first (part.0, next) (leading words))) (option_word word) ([], word ∷ next ∷ words)

-- those before the end
abbrev pub if_all : Options × List (List ℕ) → Option Options
if_all (options, []) = Some options
if_all (options, word ∷ words) = None

-- the options that the words are, if each word belongs to one
abbrev pub options_in : List (List ℕ) → Option Options
options_in words = if_all (leading words)

-- whether a text is one of these
abbrev pub is_among : List ℕ → List (List ℕ) → Bool
is_among text texts = list_any (λ other. bytes_eq other text) texts

-- the value of the first option of that name
unfoldable pub value_of : List ℕ → Options → Option (List ℕ)
value_of name [] = None
value_of name (option ∷ options) = if bytes_eq option.0 name then Some option.1 else value_of name options

-- each has one of these names, and no two have the same
unfoldable pub are_named : List (List ℕ) → Options → Bool
are_named names [] = true
are_named names (option ∷ options) =
    is_among option.0 names && is_none (value_of option.0 options) && are_named names options

-- these options, if they are so
unfoldable pub only : List (List ℕ) → Options → Option Options
only names options = if are_named names options then Some options else None

-- ---- what the reader keeps of them

abbrev pub seen : declared.Options → Options
seen options = (leading (map string_bytes options.words.now)).0

abbrev pub text_of : Bor (List ℕ) → List ℕ
text_of text = text.now
