-- Where layers begin and end.
use Rattle.std.proofs.Common.{◌≡◌, ℕ, zero, suc, ◌<◌, ◌≤◌, cond, nat_le, List, [], ◌∷◌, length, get_or, refl, arith}
use Rattle.std.proofs.lemmas.Bool.Decides.{nat_tests}
use Rattle.std.proofs.lemmas.List.Sums.{sum_by-cons}
use Rattle.ghg_layers.specs.Layers.{AreEnds, layer_of}

-- a layer begins where the one before it ends
abbrev pub start_of : ℕ → List ℕ → ℕ → ℕ
start_of from [] layer = from
start_of from (end ∷ ends) zero = from
start_of from (end ∷ ends) (suc layer) = start_of end ends layer

pub starts_first : (ends : List ℕ) → start_of 0 ends 0 ≡ 0
starts_first [] = refl
starts_first (end ∷ ends) = refl

pub starts_next : (from : ℕ) (ends : List ℕ) (layer d : ℕ) → layer < length ends → start_of from ends (suc layer) ≡ get_or ends layer d
starts_next from [] layer d h = absurd (omega arith)
starts_next from (end ∷ []) zero d h = refl
starts_next from (end ∷ later ∷ ends) zero d h = refl
starts_next from (end ∷ ends) (suc layer) d h = starts_next end ends layer d (omega arith)

ends_behind : (from : ℕ) (ends : List ℕ) (all : ℕ) → AreEnds from ends all → from ≤ all
ends_behind from [] all are = omega (arith, are)
ends_behind from (end ∷ ends) all are = let rest = ends_behind end ends all are.1 in omega (arith, are.0, rest)

starts_behind : (from : ℕ) (ends : List ℕ) (all layer : ℕ) → AreEnds from ends all → from ≤ start_of from ends layer
starts_behind from [] all layer are = omega arith
starts_behind from (end ∷ ends) all zero are = omega arith
starts_behind from (end ∷ ends) all (suc layer) are = let rest = starts_behind end ends all layer are.1 in omega (arith, are.0, rest)

-- a layer has a node, and ends among all
pub spans : (from : ℕ) (ends : List ℕ) (all layer d : ℕ) → AreEnds from ends all → layer < length ends → (start_of from ends layer < get_or ends layer d) × (get_or ends layer d ≤ all)
spans from [] all layer d are h = absurd (omega arith)
spans from (end ∷ ends) all zero d are h = (are.0, ends_behind end ends all are.1)
spans from (end ∷ ends) all (suc layer) d are h = spans end ends all layer d are.1 (omega arith)

-- behind the last layer is the end of all
pub all_spanned : (from : ℕ) (ends : List ℕ) (all layer : ℕ) → AreEnds from ends all → length ends ≤ layer → start_of from ends layer ≡ all
all_spanned from [] all layer are h = are
all_spanned from (end ∷ ends) all zero are h = absurd (omega arith)
all_spanned from (end ∷ ends) all (suc layer) are h = all_spanned end ends all layer are.1 (omega arith)

-- a place from the beginning of a layer on is of no earlier one
pub not_earlier : (from : ℕ) (ends : List ℕ) (all layer place : ℕ) → AreEnds from ends all → layer ≤ length ends → start_of from ends layer ≤ place → layer ≤ layer_of ends place
not_earlier from [] all layer place are h on = omega arith
not_earlier from (end ∷ ends) all zero place are h on = omega arith
not_earlier from (end ∷ ends) all (suc layer) place are h on =
    let count = sum_by-cons (λ e. cond (nat_le e place) 1 0) end ends in
    let rest = not_earlier end ends all layer place are.1 (omega arith) on in
    let before : end ≤ place = omega (arith, starts_behind end ends all layer are.1, on) in
    let here : ◌≡◌ {A = ℕ} (cond (nat_le end place) 1 0) 1 = grind (arith, nat_tests, before) in
    omega (arith, count, rest, here)

none_ends : (from : ℕ) (ends : List ℕ) (all place : ℕ) → AreEnds from ends all → place < from → layer_of ends place ≡ 0
none_ends from [] all place are low = refl
none_ends from (end ∷ ends) all place are low =
    let count = sum_by-cons (λ e. cond (nat_le e place) 1 0) end ends in
    let rest = none_ends end ends all place are.1 (omega (arith, are.0, low)) in
    let behind : place < end = omega (arith, are.0, low) in
    let here : ◌≡◌ {A = ℕ} (cond (nat_le end place) 1 0) 0 = grind (arith, nat_tests, behind) in
    omega (arith, count, rest, here)

-- a place before the end of a layer is of no later one
pub not_later : (from : ℕ) (ends : List ℕ) (all layer place d : ℕ) → AreEnds from ends all → layer < length ends → place < get_or ends layer d → layer_of ends place ≤ layer
not_later from [] all layer place d are h low = absurd (omega arith)
not_later from (end ∷ ends) all zero place d are h low =
    let count = sum_by-cons (λ e. cond (nat_le e place) 1 0) end ends in
    let rest = none_ends end ends all place are.1 low in
    let here : ◌≡◌ {A = ℕ} (cond (nat_le end place) 1 0) 0 = grind (arith, nat_tests, low) in
    omega (arith, count, rest, here)
not_later from (end ∷ ends) all (suc layer) place d are h low =
    let count = sum_by-cons (λ e. cond (nat_le e place) 1 0) end ends in
    let rest = not_later end ends all layer place d are.1 (omega arith) low in
    let here : cond (nat_le end place) 1 0 ≤ 1 = grind (arith, nat_tests) in
    omega (arith, count, rest, here)
