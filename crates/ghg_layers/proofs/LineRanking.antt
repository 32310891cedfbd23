-- Lines that come by their turns have ranks, one after the other.
use Rattle.std.proofs.Common.{◌≡◌, ◌⊎◌, ℕ, zero, suc, ◌+◌, ◌-◌, ◌<◌, ◌≤◌, List, [], ◌∷◌, ◌++◌, length, max, take, get_or, Less, refl, sym, ap, ap₂, ◌∙◌, subst, inl, inr, arith}
use native.Mathlib.Decide.{ℕ_discrete}
use Prim.{yes, no}
use Rattle.std.specs.List.Sorted.{IsSorted}
use Rattle.std.proofs.lemmas.List.{take_all, take_more}
use Rattle.ghg_definitions.specs.Data.{Data}
use Rattle.ghg_definitions.specs.Listed.{IsListed}
use Rattle.ghg_definitions.proofs.Listed.{in_either, listed_left, listed_right, map_agree}
use Rattle.ghg_graph.specs.Links.{targets_of}
use Rattle.ghg_layers.specs.declared.grid.Grid.{Grid}
use Rattle.ghg_layers.specs.declared.lines.Lines.{Lines}
use Rattle.ghg_layers.specs.declared.turns.Turn.{Turn}
use Rattle.ghg_layers.specs.Grids.{IsSet, cell, height}
use Rattle.ghg_layers.specs.Lines.{AreLines}
use Rattle.ghg_layers.specs.Ranks.{AreLineRanks, greatest, last, last_before, last_of}
use Rattle.ghg_layers.specs.Turns.{IsTurnOf, turn_order}
use Rattle.ghg_layers.proofs.Greatest.{last_within}
use Rattle.ghg_layers.proofs.Turning.{earlier_place, earlier_year, not_less}

pub record AreRankedTo (l : Lines) (ts : List Turn) (k : ℕ) (g : Grid) : Type 0 where
  pub height : height g ≡ length l.names.items
  pub all : (t : Turn) → IsListed t (take k ts) → 0 < cell g t.number t.year
  pub only : (number year : ℕ) → 0 < cell g number year → (t : Turn) × IsListed t (take k ts) × (t.number ≡ number) × (t.year ≡ year)
  pub ranked : (number year : ℕ) → 0 < cell g number year → cell g number year ≡ last l g number year + 1
  pub small : (number year : ℕ) → cell g number year ≤ k

pub none_ranked : (l : Lines) (ts : List Turn) (g : Grid) → height g ≡ length l.names.items → ((row year : ℕ) → cell g row year ≡ 0) → AreRankedTo l ts 0 g
none_ranked l ts g high none = record {
  height = high;
  all = λ t i. absurd i;
  only = λ i y h. absurd (let e = none i y in omega (arith, e, h));
  ranked = λ i y h. absurd (let e = none i y in omega (arith, e, h));
  small = λ i y. let e = none i y in omega (arith, e);
}

of_small : (g : Grid) (numbers : List ℕ) (year k : ℕ) → ((i y : ℕ) → cell g i y ≤ k) → last_of g numbers year ≤ k
of_small g numbers year k small = last_within (λ i. cell g i year) numbers k (λ i _. small i year)

pub last_small : (l : Lines) (g : Grid) (k : ℕ) → ((i y : ℕ) → cell g i y ≤ k) → (number year : ℕ) → last l g number year ≤ k
last_small l g k small number zero = let a = of_small g (targets_of l.links number) 0 k small in omega (arith, a)
last_small l g k small number (suc y) =
    let a = of_small g (targets_of l.links number) (suc y) k small in
    let b = of_small g (targets_of l.previous number) y k small in omega (arith, a, b)

module _ (m : Data) (l : Lines) (lines : AreLines m l) (ts : List Turn) (each : (t : Turn) → IsListed t ts → IsTurnOf l t) (sorted : IsSorted turn_order ts) (k : ℕ) (t : Turn) (h : k < length ts) (e : t ≡ get_or ts k t) where
  taken : take (k + 1) ts ≡ take k ts ++ t ∷ []
  taken = take_more ts k t h ∙ ap (λ x. take k ts ++ x ∷ []) (sym e)

  listed_in : (s : Turn) → IsListed s (take k ts) → (i : ℕ) × (i < k) × (get_or ts i t ≡ s)
  listed_in s i = at_place ts k s i
    where
      at_place : (xs : List Turn) (n : ℕ) (s : Turn) → IsListed s (take n xs) → (i : ℕ) × (i < n) × (get_or xs i t ≡ s)
      at_place [] zero s i = absurd i
      at_place [] (suc n) s i = absurd i
      at_place (x ∷ xs) zero s i = absurd i
      at_place (x ∷ xs) (suc n) s (inl f) = (0, omega arith, sym f)
      at_place (x ∷ xs) (suc n) s (inr i) = let rest = at_place xs n s i in let low = rest.1 in (suc rest.0, omega (arith, low), rest.2)

  abbrev Come : Turn → Type 0
  Come s = IsListed s (take k ts) ⊎ (s ≡ t)

  -- it comes behind those that came
  after : (s : Turn) → Come s → turn_order t s ≡ Less → ⊥
  after s (inl i) less = let at = listed_in s i in let low = at.1 in
      not_less ts sorted at.0 k t (omega (arith, low)) h (ap (λ x. turn_order x (get_or ts at.0 t)) (sym e) ∙ ap (turn_order t) at.2 ∙ less)
  after s (inr same) less = not_less ts sorted k k t (omega arith) h (ap (λ x. turn_order x (get_or ts k t)) (sym e) ∙ ap (turn_order t) (sym e ∙ sym same) ∙ less)

  is_turn : (s : Turn) → Come s → IsTurnOf l s
  is_turn s (inl i) = each s (all_taken ts k s i)
    where
      all_taken : (xs : List Turn) (n : ℕ) (s : Turn) → IsListed s (take n xs) → IsListed s xs
      all_taken [] zero s i = i
      all_taken [] (suc n) s i = i
      all_taken (x ∷ xs) zero s i = absurd i
      all_taken (x ∷ xs) (suc n) s (inl f) = inl f
      all_taken (x ∷ xs) (suc n) s (inr i) = inr (all_taken xs n s i)
  is_turn s (inr same) = subst (IsTurnOf l) (sym same) (each t (at ts k h e))
    where
      at : (xs : List Turn) (n : ℕ) → n < length xs → t ≡ get_or xs n t → IsListed t xs
      at [] n h e = absurd (omega (arith, h))
      at (x ∷ xs) zero h e = inl e
      at (x ∷ xs) (suc n) h e = inr (at xs n (omega (arith, h)) e)

  not_target : (s : Turn) → Come s → s.year ≡ t.year → IsListed t.number (targets_of l.links s.number) → ⊥
  not_target s come year link =
      let behind = lines.places.behind s.number t.number link in
      let p = (is_turn s come).place in
      let q = (is_turn t (inr refl)).place in
      after s come (earlier_place t s (sym year) (omega (arith, behind, p, q)))

  not_previous : (s : Turn) → Come s → s.year ≡ suc t.year → ⊥
  not_previous s come year = after s come (earlier_year t s (omega (arith, year)))

  module _ (g new : Grid) (are : AreRankedTo l ts k g) (set : IsSet t.number t.year (last l g t.number t.year + 1) g new) (high : height new ≡ height g) where
    of_same : (numbers : List ℕ) (year : ℕ) → (year ≡ t.year → IsListed t.number numbers → ⊥) → last_of new numbers year ≡ last_of g numbers year
    of_same numbers year off = ap greatest (map_agree (λ i. cell new i year) (λ i. cell g i year) numbers (λ i j. set.others i year (λ same now. off now (subst (λ x. IsListed x numbers) same j))))

    before_same : (s : Turn) → Come s → (year : ℕ) → s.year ≡ year → last_before l new s.number year ≡ last_before l g s.number year
    before_same s come zero e = refl
    before_same s come (suc y) e = of_same (targets_of l.previous s.number) y (λ same _. not_previous s come (e ∙ ap (λ x. suc x) same))

    last_same : (s : Turn) → Come s → last l new s.number s.year ≡ last l g s.number s.year
    last_same s come = ap₂ max (of_same (targets_of l.links s.number) s.year (λ same link. not_target s come same link)) (before_same s come s.year refl)

    abbrev IsHere : ℕ → ℕ → Type 0
    IsHere i y = (i ≡ t.number) × (y ≡ t.year)

    either : (i y : ℕ) → IsHere i y ⊎ (cell new i y ≡ cell g i y)
    either i y = elim (ℕ_discrete i t.number) [
      | yes a ↦ elim (ℕ_discrete y t.year) [ yes b ↦ inl (a, b) | no off ↦ inr (set.others i y (λ _ f. off f)) ]
      | no off ↦ inr (set.others i y (λ f _. off f))
    ]

    here : (i y : ℕ) → IsHere i y → cell new i y ≡ last l g t.number t.year + 1
    here i y is = ap₂ (cell new) is.0 is.1 ∙ set.itself

    itself : last l new t.number t.year ≡ last l g t.number t.year
    itself = last_same t (inr refl)

    more : (s : Turn) → IsListed s (take k ts) → IsListed s (take (k + 1) ts)
    more s i = subst (IsListed s) (sym taken) (listed_left s (take k ts) (t ∷ []) i)

    pub ranked_on : AreRankedTo l ts (k + 1) new
    ranked_on = record {
      height = high ∙ are.height;
      all = λ s i. elim (either s.number s.year) [
        | inl is ↦ let r = here s.number s.year is in omega (arith, r)
        | inr same ↦ elim (in_either s (take k ts) (t ∷ []) (subst (IsListed s) taken i)) [
          | inl j ↦ let was = are.all s j in omega (arith, same, was)
          | inr j ↦ elim j [ inl f ↦ let r = here s.number s.year (ap (λ (x : Turn). x.number) f, ap (λ (x : Turn). x.year) f) in omega (arith, r) | inr none ↦ absurd none ]
        ]
      ];
      only = λ i y some. elim (either i y) [
        | inl is ↦ (t, subst (IsListed t) (sym taken) (listed_right t (take k ts) (t ∷ []) (inl refl)), sym is.0, sym is.1)
        | inr same ↦ let was = are.only i y (subst (λ x. 0 < x) same some) in (was.0, more was.0 was.1, was.2, was.3)
      ];
      ranked = λ i y some. elim (either i y) [
        | inl is ↦ here i y is ∙ ap (λ x. x + 1) (sym (ap₂ (last l new) is.0 is.1 ∙ itself))
        | inr same ↦
            let had = subst (λ x. 0 < x) same some in
            let was = are.only i y had in
            same ∙ are.ranked i y had ∙ ap (λ x. x + 1) (sym (ap₂ (last l new) (sym was.2) (sym was.3) ∙ last_same was.0 (inl was.1) ∙ ap₂ (last l g) was.2 was.3))
      ];
      small = λ i y. elim (either i y) [
        | inl is ↦ let r = here i y is in let low = last_small l g k are.small t.number t.year in omega (arith, r, low)
        | inr same ↦ let low = are.small i y in omega (arith, same, low)
      ];
    }

pub all_ranked : (l : Lines) (ts : List Turn) (k : ℕ) (g : Grid) → k ≤ length ts → length ts ≤ k → AreRankedTo l ts k g → AreLineRanks l ts g
all_ranked l ts k g low h are = record {
  height = are.height;
  all = λ t i. are.all t (subst (IsListed t) (sym (take_all k ts h)) i);
  only = λ i y some. let was = are.only i y some in (was.0, subst (IsListed was.0) (take_all k ts h) was.1, was.2, was.3);
  ranked = are.ranked;
  small = λ i y. let s = are.small i y in omega (arith, s, low);
}

-- ---- the greatest rank as it is computed

pub last_first : (l : Lines) (g : Grid) (number year rank : ℕ) → year ≡ 0 → rank ≡ last_of g (targets_of l.links number) year → rank ≡ last l g number year
last_first l g number zero rank e is = omega (arith, is)
last_first l g number (suc y) rank e is = absurd (omega (arith, e))

pub last_later : (l : Lines) (g : Grid) (number year a b rank : ℕ) → (year ≡ 0 → ⊥) → a ≡ last_of g (targets_of l.links number) year → b ≡ last_of g (targets_of l.previous number) (year - 1)
    → rank ≡ max a b → rank ≡ last l g number year
last_later l g number zero a b rank off is_a is_b both = absurd (off refl)
last_later l g number (suc y) a b rank off is_a is_b both =
    let e : suc y - 1 ≡ y = omega arith in
    both ∙ ap₂ max is_a (is_b ∙ ap (last_of g (targets_of l.previous number)) e)
