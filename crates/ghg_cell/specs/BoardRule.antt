-- The rule of a board: what holds of its word, and of what its passes know, between any two steps.
use Rattle.std.specs.Prelude.{◌≡◌, ℕ, ◌+◌, ◌-◌, ◌<◌, ◌≤◌, cond, eqb, ltb, min}
use Rattle.std.specs.Prelude.{List, [], ◌∷◌, ◌++◌, length}
use mathlib.Core.Option.{some}
use lib.ListN.{get_elem?}
use Rattle.ghg_cell.specs.declared.view.View.{View}

-- how often a number stands in a list
abbrev pub times : ℕ → List ℕ → ℕ
times x [] = 0
times x (y ∷ ys) = cond (eqb y x) 1 0 + times x ys

-- once for each number below n, and never for another
abbrev pub once_below : ℕ → ℕ → ℕ
once_below x n = cond (ltb x n) 1 0

-- a number of each view, added up
abbrev pub over_all : (View → ℕ) → List View → ℕ
over_all f [] = 0
over_all f (v ∷ vs) = f v + over_all f vs

abbrev pub claims_of : ℕ → View → ℕ
claims_of x v = times x v.claimed

abbrev pub count_of : View → ℕ
count_of v = length v.claimed

abbrev pub stake_of : View → ℕ
stake_of v = v.stake

abbrev pub misses_of : View → ℕ
misses_of v = v.misses

-- what a pass knows when it is made
abbrev pub fresh : ℕ → ℕ → View
fresh places stake = record { places = places; claimed = []; stake = stake; misses = 0 }

-- one stake less
abbrev pub cut : View → View
cut v = record v { stake = v.stake - 1 }

-- one more place
abbrev pub with_place : View → ℕ → View
with_place v x = record v { claimed = v.claimed ++ x ∷ [] }

-- one more miss
abbrev pub with_miss : View → View
with_miss v = record v { misses = v.misses + 1 }

-- two passes made one
abbrev pub both : View → View → View
both v w = record {
  places = v.places;
  claimed = v.claimed ++ w.claimed;
  stake = v.stake + w.stake;
  misses = v.misses + w.misses;
}

-- what is left of the second
abbrev pub spent : View
spent = fresh 0 0

-- a live view is one with a stake; one without was spent
abbrev pub IsSound : ℕ → View → Type 0
IsSound places v = (0 < v.stake → v.places ≡ places) × (v.misses ≤ v.stake) × (v.stake ≡ 0 → v.claimed ≡ [])

-- each number below the word and `places` was claimed once, by one pass, and no other number was claimed
pub record Kept (places word : ℕ) (views : List View) : Type 0 where
  pub small : places ≤ 1000000000
  pub sound : (i : ℕ) (v : View) → get_elem? views i ≡ some v → IsSound places v
  pub once : (x : ℕ) → over_all (claims_of x) views ≡ once_below x (min word places)
  pub counted : over_all count_of views ≡ min word places
  pub stakes : over_all stake_of views ≡ 64
  pub missed : over_all misses_of views ≡ word - places
