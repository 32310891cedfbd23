-- The lines of replies are UTF-8.
use Rattle.std.proofs.Common.{ℕ, List, ◌++◌, Result, Ok, Err}
use Rattle.std.specs.Prelude.{OnOk}
use Rattle.std.specs.Str.{IsUtf8}
use Rattle.std.proofs.lemmas.Str.{IsUtf8-append}

-- a text behind words
pub behind_words : {A E : Type 0} (r : Result A E) (words text : List ℕ) → IsUtf8 words → OnOk r (IsUtf8 text)
    → OnOk r (IsUtf8 (words ++ text))
behind_words (Ok v) words text w h = IsUtf8-append words text w h
behind_words (Err e) words text w h = tt
