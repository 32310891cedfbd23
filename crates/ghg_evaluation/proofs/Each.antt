-- Lists that are gone through, element by element.
use Rattle.std.proofs.Common.{◌≡◌, ◌<◌, ◌+◌, ℕ, zero, suc, List, [], ◌∷◌, ◌++◌, length, get_or, map, take, drop, sym, ap, ◌∙◌, subst, arith}
use Rattle.std.specs.List.{AllByRecursion}
use Rattle.std.proofs.lemmas.List.{take-append-drop, take_more}

-- what holds of each value holds of that of the element at a place
module _ {A B C : Type 0} (k : A → B) (h : B → C) (P : C → Type 0) where
  each : (xs : List A) (i : ℕ) (d : A) → AllByRecursion P (map h (map k xs)) → i < length xs → P (h (k (get_or xs i d)))
  each [] i d all within = absurd (omega arith)
  each (x ∷ xs) zero d all within = all.0
  each (x ∷ xs) (suc i) d all within = each xs i d all.1 (omega arith)

  pub value_at : (xs : List A) (i : ℕ) (x : A) → AllByRecursion P (map h (map k xs)) → i < length xs → x ≡ get_or xs i x → P (h (k x))
  value_at xs i x all within is = subst (λ y. P (h (k y))) (sym is) (each xs i x all within)

-- values of a list that is gone through, one for each element
module _ {A C : Type 0} (f : A → C) (values : List A → List C) (one : (x : A) → values (x ∷ []) ≡ f x ∷ [])
    (append : (xs ys : List A) → values (xs ++ ys) ≡ values xs ++ values ys)
    (xs : List A) (i : ℕ) (x : A) (within : i < length xs) (is : x ≡ get_or xs i x) where
  -- those up to the next place
  pub values_more : values (take (i + 1) xs) ≡ values (take i xs) ++ f x ∷ []
  values_more =
      ap values (take_more xs i x within ∙ ap (λ y. take i xs ++ y ∷ []) (sym is)) ∙ append (take i xs) (x ∷ [])
      ∙ ap (λ ys. values (take i xs) ++ ys) (one x)

  -- and those behind it
  pub values_all : values xs ≡ (values (take i xs) ++ f x ∷ []) ++ values (drop (i + 1) xs)
  values_all =
      ap values (sym (take-append-drop (i + 1) xs)) ∙ append (take (i + 1) xs) (drop (i + 1) xs)
      ∙ ap (λ ys. ys ++ values (drop (i + 1) xs)) values_more
