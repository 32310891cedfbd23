-- The greatest of numbers.
use Rattle.std.proofs.Common.{◌≡◌, ◌⊎◌, ℕ, suc, ◌+◌, ◌<◌, ◌≤◌, Bool, true, false, cond, List, [], ◌∷◌, ◌++◌, append-nil, filter, map, max, length, take, get_or, refl, sym, ap, ◌∙◌, subst, inl, inr, arith}
use Rattle.std.proofs.lemmas.List.{map-append, take_more}
use Rattle.ghg_definitions.specs.Listed.{IsListed}
use Rattle.ghg_definitions.proofs.Listed.{from_map, listed_map}
use Rattle.ghg_layers.specs.Ranks.{greatest}

one_greatest : (x : ℕ) → x ≡ greatest (x ∷ [])
one_greatest x = omega arith

greatest_both : (xs ys : List ℕ) → greatest (xs ++ ys) ≡ max (greatest xs) (greatest ys)
greatest_both [] ys = omega arith
greatest_both (x ∷ xs) ys = ap (max x) (greatest_both xs ys) ∙ by x (greatest xs) (greatest ys)
  where
    by : (a b c : ℕ) → max a (max b c) ≡ max (max a b) c
    by a b c = omega arith

pub greatest_push : (xs : List ℕ) (x : ℕ) → greatest (xs ++ x ∷ []) ≡ max (greatest xs) x
greatest_push xs x = greatest_both xs (x ∷ []) ∙ ap (max (greatest xs)) (sym (one_greatest x))

least : (xs : List ℕ) (x : ℕ) → IsListed x xs → x ≤ greatest xs
least [] x i = absurd i
least (y ∷ xs) x (inl e) = omega (arith, e)
least (y ∷ xs) x (inr i) = let h = least xs x i in omega (arith, h)

within : (xs : List ℕ) (b : ℕ) → ((x : ℕ) → IsListed x xs → x ≤ b) → greatest xs ≤ b
within [] b all = omega arith
within (x ∷ xs) b all = let h = within xs b (λ y i. all y (inr i)) in let k = all x (inl refl) in omega (arith, h, k)

met : (xs : List ℕ) (v : ℕ) → greatest xs ≡ suc v → IsListed (suc v) xs
met [] v e = absurd (omega (arith, e))
met (x ∷ xs) v e = elim (which x (greatest xs) e) [ inl h ↦ inl (sym h) | inr h ↦ inr (met xs v h) ]
  where
    which : (a b : ℕ) → max a b ≡ suc v → (a ≡ suc v) ⊎ (b ≡ suc v)
    which a b e = grind (arith, e)

-- ---- of what is mapped

pub last_least : {A : Type 0} (f : A → ℕ) (xs : List A) (x : A) → IsListed x xs → f x ≤ greatest (map f xs)
last_least f xs x i = least (map f xs) (f x) (listed_map f x xs i)

pub last_met : {A : Type 0} (f : A → ℕ) (xs : List A) (v : ℕ) → greatest (map f xs) ≡ suc v → (x : A) × IsListed x xs × (f x ≡ suc v)
last_met f xs v e = let from = from_map f (suc v) xs (met (map f xs) v e) in (from.0, from.1, sym from.2)

pub last_within : {A : Type 0} (f : A → ℕ) (xs : List A) (b : ℕ) → ((x : A) → IsListed x xs → f x ≤ b) → greatest (map f xs) ≤ b
last_within f xs b all = within (map f xs) b (λ y i. let from = from_map f y xs i in subst (λ z. z ≤ b) (sym from.2) (all from.0 from.1))

pub greatest_more : {A : Type 0} (f : A → ℕ) (xs : List A) (k : ℕ) (x : A) → k < length xs → x ≡ get_or xs k x → max (greatest (map f (take k xs))) (f x) ≡ greatest (map f (take (k + 1) xs))
greatest_more f xs k x h e = sym (ap (λ ys. greatest (map f ys)) (take_more xs k x h ∙ ap (λ y. take k xs ++ y ∷ []) (sym e)) ∙ ap greatest (map-append f (take k xs) (x ∷ [])) ∙ greatest_push (map f (take k xs)) (f x))

-- one more of a list
pub one_more : {A : Type 0} (f : A → ℕ) (xs : List A) (k : ℕ) (x : A) → k < length xs → x ≡ get_or xs k x → (last rank now : ℕ)
    → last ≡ greatest (map f (take k xs)) → rank ≡ f x → now ≡ max last rank → now ≡ greatest (map f (take (k + 1) xs))
one_more f xs k x h e last rank now was is both = both ∙ ap (λ a. max a rank) was ∙ ap (max (greatest (map f (take k xs)))) is ∙ greatest_more f xs k x h e

-- ---- of those that pass a test

pub filter_push : {A : Type 0} (test : A → Bool) (xs : List A) (x : A) → filter test (xs ++ x ∷ []) ≡ filter test xs ++ cond (test x) (x ∷ []) []
filter_push test [] x = by (test x)
  where
    by : (b : Bool) → cond b (x ∷ []) [] ≡ [] ++ cond b (x ∷ []) []
    by true = refl
    by false = refl
filter_push {A = A} test (y ∷ xs) x = by (test y) (filter_push test xs x)
  where
    by : (b : Bool) → filter test (xs ++ x ∷ []) ≡ filter test xs ++ cond (test x) (x ∷ []) []
        → cond b (y ∷ filter test (xs ++ x ∷ [])) (filter test (xs ++ x ∷ [])) ≡ cond b (y ∷ filter test xs) (filter test xs) ++ cond (test x) (x ∷ []) []
    by true rest = ap (λ (ys : List A). y ∷ ys) rest
    by false rest = rest

-- one more, which is taken in if it passes
pub filtered_more : {A : Type 0} (f : A → ℕ) (test : A → Bool) (xs : List A) (k : ℕ) (x : A) → k < length xs → x ≡ get_or xs k x → (last rank now : ℕ)
    → last ≡ greatest (map f (filter test (take k xs))) → rank ≡ f x → now ≡ cond (test x) (max last rank) last → now ≡ greatest (map f (filter test (take (k + 1) xs)))
filtered_more {A = A} f test xs k x h e last rank now was rank_is is = is ∙ by (test x) ∙ sym (ap (λ ys. greatest (map f ys)) pushed)
  where
    passed : List A
    passed = filter test (take k xs)

    pushed : filter test (take (k + 1) xs) ≡ passed ++ cond (test x) (x ∷ []) []
    pushed = ap (filter test) (take_more xs k x h ∙ ap (λ y. take k xs ++ y ∷ []) (sym e)) ∙ filter_push test (take k xs) x

    by : (b : Bool) → cond b (max last rank) last ≡ greatest (map f (passed ++ cond b (x ∷ []) []))
    by true = ap (λ a. max a rank) was ∙ ap (max (greatest (map f passed))) rank_is ∙ sym (ap greatest (map-append f passed (x ∷ [])) ∙ greatest_push (map f passed) (f x))
    by false = was ∙ sym (ap (λ ys. greatest (map f ys)) (append-nil passed))

-- only a greater one that passes changes the greatest
pub greater_in : (b : Bool) (last rank : ℕ) → b ≡ true → last < rank → rank ≡ cond b (max last rank) last
greater_in true last rank e above = omega (arith, above)
greater_in false last rank e above = cc

pub failing_out : (b : Bool) (last rank : ℕ) → b ≡ false → last ≡ cond b (max last rank) last
failing_out true last rank e = cc
failing_out false last rank e = refl

pub no_greater : (b : Bool) (last rank : ℕ) → rank ≤ last → last ≡ cond b (max last rank) last
no_greater true last rank below = omega (arith, below)
no_greater false last rank below = refl
