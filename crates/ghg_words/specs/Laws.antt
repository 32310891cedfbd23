-- What holds of every command line.
use Rattle.std.specs.Prelude.{◌≡◌, ℕ, Bool, IsFalse, List, [], ◌∷◌, ◌++◌, map, if◌then◌else◌, codes}
use Rattle.std.specs.List.{flat_map, list_any}
use Rattle.ghg_words.specs.Command.{command_in}
use Rattle.ghg_words.specs.Options.{is_equals}

-- an option, in one word or in two; its name has no equals sign
pub record Spelled : Type 0 where
  pub name : List ℕ
  pub plain : IsFalse (list_any is_equals name)
  pub value : List ℕ
  pub is_one_word : Bool

-- its words
abbrev pub words_of : Spelled → List (List ℕ)
words_of s =
    if s.is_one_word then (codes "--" ++ (s.name ++ 61 ∷ s.value)) ∷ []
    else (codes "--" ++ s.name) ∷ s.value ∷ []

-- its name and value, however they are spelled
abbrev pub option_of : Spelled → List ℕ × List ℕ
option_of s = (s.name, s.value)

-- The same elements in another order: neighbours exchange their places, one pair after the other.
pub data IsReordered {X : Type 0} : List X → List X → Type 0 where
  unchanged : (xs : List X) → IsReordered xs xs
  behind : (x : X) (xs ys : List X) → IsReordered xs ys → IsReordered (x ∷ xs) (x ∷ ys)
  exchanged : (x y : X) (xs : List X) → IsReordered (x ∷ y ∷ xs) (y ∷ x ∷ xs)
  in_turn : (xs ys zs : List X) → IsReordered xs ys → IsReordered ys zs → IsReordered xs zs

-- Command lines with the same options and values are the same command, in whatever order the options stand,
-- and however each of them is spelled.
abbrev pub OptionsStandInAnyOrder : Type 0
OptionsStandInAnyOrder = (word : List ℕ) (xs ys : List Spelled)
    → IsReordered (map option_of xs) (map option_of ys)
    → command_in (word ∷ flat_map words_of xs) ≡ command_in (word ∷ flat_map words_of ys)
