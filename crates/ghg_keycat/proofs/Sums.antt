-- Sums over lists: term by term, over a map, and in two parts.
use Rattle.std.proofs.Common.{◌≡◌, ℕ, ◌+◌, ◌*◌, ◌≤◌, List, [], ◌∷◌, take, drop, map, refl, sym, ap, ◌∙◌, arith}
use Rattle.std.specs.List.{All, sum_by}
use Rattle.std.proofs.lemmas.List.Elements.{All-head, All-tail}
use Rattle.std.proofs.lemmas.List.Sums.{sum_by-cons, sum_by-take-drop}

pub sum_same : {X : Type 0} (f g : X → ℕ) (xs : List X) → All (λ x. f x ≡ g x) xs → sum_by f xs ≡ sum_by g xs
sum_same f g [] h = refl
sum_same f g (x ∷ xs) h =
    let first : f x ≡ g x = All-head (λ y. f y ≡ g y) x xs h in
    let rest : sum_by f xs ≡ sum_by g xs = sum_same f g xs (All-tail (λ y. f y ≡ g y) x xs h) in
    sum_by-cons f x xs ∙ omega (arith, first, rest) ∙ sym (sum_by-cons g x xs)

pub sum_none : {X : Type 0} (f : X → ℕ) (xs : List X) → All (λ x. f x ≡ 0) xs → sum_by f xs ≡ 0
sum_none f [] h = refl
sum_none f (x ∷ xs) h =
    let first : f x ≡ 0 = All-head (λ y. f y ≡ 0) x xs h in
    let rest : sum_by f xs ≡ 0 = sum_none f xs (All-tail (λ y. f y ≡ 0) x xs h) in
    sum_by-cons f x xs ∙ omega (arith, first, rest)

pub sum_map : {X Y : Type 0} (g : Y → ℕ) (f : X → Y) (xs : List X) → sum_by g (map f xs) ≡ sum_by (λ x. g (f x)) xs
sum_map g f [] = refl
sum_map g f (x ∷ xs) = sum_by-cons g (f x) (map f xs) ∙ ap (λ n. g (f x) + n) (sum_map g f xs) ∙ sym (sum_by-cons (λ y. g (f y)) x xs)

-- where f counts what g does before k, and nothing from there on
pub sum_before : {X : Type 0} (f g : X → ℕ) (xs : List X) (k : ℕ) → All (λ x. f x ≡ g x) (take k xs) → All (λ x. f x ≡ 0) (drop k xs) → sum_by f xs ≡ sum_by g (take k xs)
sum_before f g xs k h j = omega (arith, sum_by-take-drop f xs k, sum_same f g (take k xs) h, sum_none f (drop k xs) j)

pub sum_within : {X : Type 0} (f g : X → ℕ) (c : ℕ) (xs : List X) → ((x : X) → f x ≤ c * g x) → sum_by f xs ≤ c * sum_by g xs
sum_within f g c [] h = omega arith
sum_within f g c (x ∷ xs) h = rw (sum_by-cons f x xs, sum_by-cons g x xs) (omega (arith, h x, sum_within f g c xs h))
