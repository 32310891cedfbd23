-- What holds of the rest of a list.
use Rattle.std.proofs.Common.{ℕ, ◌+◌, ◌<◌, List, [], ◌∷◌, length, drop, subst, arith}
use Rattle.std.proofs.lemmas.List.{drop_more}
use Rattle.std.specs.List.{AllByRecursion}

-- what holds of those that are left holds of the rest of them
pub all_left : {A : Type 0} (P : A → Type 0) (xs : List A) (i : ℕ) → i < length xs
    → AllByRecursion P (drop i xs) → AllByRecursion P (drop (i + 1) xs)
all_left P [] i h all = absurd (omega (arith, h))
all_left P (x ∷ xs) i h all = (subst (AllByRecursion P) (drop_more (x ∷ xs) i x h) all).1
