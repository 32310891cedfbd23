-- Each entry goes into the slot of its place, and at the end each slot has what its place gives.
use Rattle.std.proofs.Common.{◌≡◌, ℕ, ◌<◌, ◌≢◌, List, [], ◌∷◌, ◌++◌, length, get_or, set, Option, Some, None, IsSomeAnd, Vec, Global, refl, sym, ap, ◌∙◌, subst, arith, get_or-set_other, get_or-set_same}
use Rattle.std.proofs.lemmas.Bool.Decides.{nat_tests}
use Rattle.std.proofs.lemmas.List.{map-append}
use mathlib.Core.Logic.{dite}
use native.Mathlib.Decide.{ℕ_discrete}
use Rattle.ghg_cell.specs.BoardRule.{times, once_below}
use Rattle.ghg_cell.proofs.Views.{times_append}
use Rattle.ghg_workers.specs.declared.entry.Entry.{Entry}
use Rattle.ghg_workers.specs.Slots.{AreFilled}
use Rattle.ghg_workers.specs.Entries.{place_of, places_of, IsOf}

module _ {O : Type 0} (outcome : ℕ → O → Type 0) (count : ℕ) where
  -- each slot has what its place gives, unless its entry is still to come
  abbrev pub IsLaid : List (Option O) → List (Entry O) → Type 0
  IsLaid slots rest = (k : ℕ) → k < count → times k (places_of rest) ≡ 0 → IsSomeAnd (get_or slots k None) (outcome k)

  pub begins : (slots : List (Option O)) (entries : List (Entry O)) → ((x : ℕ) → times x (places_of entries) ≡ once_below x count) → IsLaid slots entries
  begins slots entries each k lower none = absurd (grind (arith, nat_tests, each k))

  pub goes_on : (slots : List (Option O)) (rest : List (Entry O)) (e : Entry O) → length slots ≡ count → IsOf outcome count e
      → IsLaid slots (rest ++ e ∷ []) → IsLaid (set slots e.place (Some e.outcome)) rest
  goes_on slots rest e long is laid k lower none =
      dite (ℕ_discrete k e.place)
      (λ (here : k ≡ e.place). subst (λ (j : ℕ). IsSomeAnd (get_or (set slots e.place (Some e.outcome)) j None) (outcome j)) (sym here)
      (let l : e.place < length slots = omega (arith, is.0) in rw get_or-set_same is.1))
      (λ (apart : k ≢ e.place). rw get_or-set_other (laid k lower
      (ap (times k) (map-append place_of rest (e ∷ [])) ∙ (times_append k (places_of rest) (e.place ∷ []) ∙ grind (arith, nat_tests)))))

  pub ends : (slots : Vec (Option O) Global) (entries : List (Entry O)) → length entries ≡ 0 → length slots.items ≡ count → IsLaid slots.items entries → AreFilled outcome count slots
  ends slots [] none long laid = record { long = long; each = λ k lower. laid k lower refl }
  ends slots (e ∷ entries) none long laid = absurd (omega (arith, none))
