-- Slots from a year on, and what they have once one is written or added.
use Rattle.std.proofs.Common.{◌≡◌, ◌≢◌, ℕ, ◌+◌, ◌-◌, ◌<◌, ◌≤◌, ◌==◌, Bool, true, false, cond, nat_le, List, [], ◌∷◌, ◌++◌, get_or, length, length-append, set, is_some, Option, Some, None, refl, sym, ap, ◌∙◌, arith, leb-false, leb-true, le-leb, eqb-true}
use Rattle.std.specs.Option.{option_or}
use Rattle.std.proofs.lemmas.Bool.{eqb-false}
use Rattle.std.proofs.lemmas.List.{get_or_append_left, get_or_past, get_or_push, get_or-set_other, get_or-set_same}
use Rattle.ghg_cell.specs.declared.input.Input.{Input}

-- the value of a year in slots from the first year on
abbrev pub value_from : ℕ → List (Option Input) → ℕ → Option Input
value_from first slots year = cond (nat_le first year) (get_or slots (year - first) None) None

-- ---- one slot is written or added

module _ (first year : ℕ) (xs ys : List (Option Input)) (slot : Option Input) (le : first ≤ year) (here : get_or ys (year - first) None ≡ slot) (elsewhere : (j : ℕ) → j ≢ year - first → get_or ys j None ≡ get_or xs j None) where
  changed : (y : ℕ) → value_from first ys y ≡ cond (y == year) slot (value_from first xs y)
  changed y = by (nat_le first y) refl (y == year) refl
    where
      apart : first ≤ y → (y ≡ year → ⊥) → y - first ≢ year - first
      apart low other e = other (omega (arith, low, le, e))

      by : (a : Bool) → nat_le first y ≡ a → (b : Bool) → (y == year) ≡ b → cond a (get_or ys (y - first) None) None ≡ cond b slot (cond a (get_or xs (y - first) None) None)
      by true low true same = ap (λ k. get_or ys (k - first) None) (eqb-true y year same) ∙ here
      by true low false other = elsewhere (y - first) (apart (leb-true first y low) (eqb-false y year other))
      by false high true same = absurd (before (leb-false first y high) (eqb-true y year same))
        where
          before : y < first → y ≡ year → ⊥
          before l e = omega (arith, l, e, le)
      by false high false other = refl

written : (first year : ℕ) (xs : List (Option Input)) (slot : Option Input) → first ≤ year → year - first < length xs → (y : ℕ) → value_from first (set xs (year - first) slot) y ≡ cond (y == year) slot (value_from first xs y)
written first year xs slot le low = changed first year xs (set xs (year - first) slot) slot le (get_or-set_same xs (year - first) slot None low) (λ j other. get_or-set_other xs (year - first) j slot None other)

added : (first year : ℕ) (xs : List (Option Input)) (slot : Option Input) → first + length xs ≡ year → (y : ℕ) → value_from first (xs ++ slot ∷ []) y ≡ cond (y == year) slot (value_from first xs y)
added first year xs slot at = changed first year xs (xs ++ slot ∷ []) slot (omega (arith, at)) (get_or_push xs slot None (year - first) (omega (arith, at))) (λ j other. elsewhere j (nat_le (length xs) j) refl other)
  where
    past : (j : ℕ) → length xs ≤ j → j ≢ year - first → length xs + 1 ≤ j
    past j le other = omega (arith, at, le, other)

    elsewhere : (j : ℕ) (b : Bool) → nat_le (length xs) j ≡ b → j ≢ year - first → get_or (xs ++ slot ∷ []) j None ≡ get_or xs j None
    elsewhere j false before other = get_or_append_left xs (slot ∷ []) None j (leb-false _ _ before)
    elsewhere j true behind other =
        let le : length xs ≤ j = leb-true _ _ behind in
        get_or_past (xs ++ slot ∷ []) j None (omega (arith, past j le other, length_one)) ∙ sym (get_or_past xs j None le)
      where
        length_one : length (xs ++ slot ∷ []) ≡ length xs + 1
        length_one = length-append xs (slot ∷ [])

-- no slot
pub none_in : (first : ℕ) (xs : List (Option Input)) → xs ≡ [] → (y : ℕ) → value_from first xs y ≡ None
none_in first xs none y = ap (λ ys. value_from first ys y) none ∙ either_none (nat_le first y)
  where
    either_none : (b : Bool) → ◌≡◌ {A = Option Input} (cond b None None) None
    either_none true = refl
    either_none false = refl

-- ---- one slot that has a value goes into the kept ones

module _ (first kept_first : ℕ) (rest kept : List (Option Input)) (slot : Option Input) (offset : ℕ) (at : kept_first + offset ≡ first + length rest) (within : offset < length kept) where
  past : value_from first rest (first + length rest) ≡ None
  past = ap (λ b. cond b (get_or rest (first + length rest - first) None) None) (le-leb first (first + length rest) (omega arith)) ∙ get_or_past rest (first + length rest - first) None (omega arith)

  pub one_taken : is_some slot ≡ true → (y : ℕ) → option_or (value_from first rest y) (value_from kept_first (set kept offset slot) y) ≡ option_or (value_from first (rest ++ slot ∷ []) y) (value_from kept_first kept y)
  one_taken some y =
      ap (λ i. option_or (value_from first rest y) (value_from kept_first (set kept i slot) y)) (omega (arith, at))
      ∙ ap (option_or (value_from first rest y)) (written kept_first (first + length rest) kept slot (omega (arith, at)) (omega (arith, at, within)) y) ∙ by slot some (y == first + length rest) refl
      ∙ ap (λ o. option_or o (value_from kept_first kept y)) (sym (added first (first + length rest) rest slot refl y))
    where
      by : (o : Option Input) → is_some o ≡ true → (b : Bool) → (y == first + length rest) ≡ b → option_or (value_from first rest y) (cond b o (value_from kept_first kept y)) ≡ option_or (cond b o (value_from first rest y)) (value_from kept_first kept y)
      by None some b e = absurd (cc)
      by (Some x) some true same = ap (λ o. option_or o (Some x)) (ap (value_from first rest) (eqb-true y (first + length rest) same) ∙ past)
      by (Some x) some false other = refl
