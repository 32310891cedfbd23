-- One step through the options of a command line.
use Rattle.std.proofs.Common.{◌≡◌, ℕ, List, [], ◌∷◌, Some, None, refl}
use Rattle.ghg_words.specs.Options.{Options, if_all, leading, option_word, with_first}

-- a word that is no option
pub leading_stop : (w : List ℕ) (ws : List (List ℕ)) → option_word w ≡ None → leading (w ∷ ws) ≡ ([], w ∷ ws)
unfolding leading
leading_stop w [] e = rw e refl
leading_stop w (v ∷ ws) e = rw e refl

-- an option with its value in one word
pub leading_one : (w name value : List ℕ) (ws : List (List ℕ)) → option_word w ≡ Some (name, Some value)
    → leading (w ∷ ws) ≡ with_first (name, value) (leading ws)
unfolding leading
leading_one w name value [] e = rw e refl
leading_one w name value (v ∷ ws) e = rw e refl

-- an option with no value
pub leading_last : (w name : List ℕ) → option_word w ≡ Some (name, None) → leading (w ∷ []) ≡ ([], w ∷ [])
unfolding leading
leading_last w name e = rw e refl

-- an option with its value in the next word
pub leading_two : (w name value : List ℕ) (ws : List (List ℕ)) → option_word w ≡ Some (name, None)
    → leading (w ∷ value ∷ ws) ≡ with_first (name, value) (leading ws)
unfolding leading
leading_two w name value ws e = rw e refl

pub leading_end : leading [] ≡ ([], [])
unfolding leading
leading_end = refl

-- no word is left, or one is
pub all_read : (read : Options × List (List ℕ)) → read.1 ≡ [] → if_all read ≡ Some read.0
all_read (options, []) e = refl
all_read (options, w ∷ ws) e = absurd (cc)

pub some_left : (read : Options × List (List ℕ)) (w : List ℕ) (ws : List (List ℕ)) → read.1 ≡ w ∷ ws → if_all read ≡ None
some_left (options, []) w ws e = absurd (cc)
some_left (options, v ∷ vs) w ws e = refl
