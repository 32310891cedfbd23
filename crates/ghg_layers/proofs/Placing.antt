-- Numbers of lines, and places of them by an order.
use Rattle.std.proofs.Common.{◌≡◌, ◌⊎◌, ℕ, zero, suc, ◌+◌, ◌<◌, Bool, true, false, List, [], ◌∷◌, length, map, reverse, get_or, set, take, if◌then◌else◌, get_or-set_same, get_or-set_other, length-set, Ordering, Less, Equal, refl, sym, ap, ap₂, ◌∙◌, subst, inl, inr, arith}
use Rattle.std.specs.Cmp.{tied_itself}
use Rattle.std.specs.Cmp.Lexicographic.{bytes_decides, nat_list_cmp_total}
use Rattle.std.specs.List.Sorted.{IsStrictlySortedBy}
use Rattle.std.proofs.lemmas.List.{get_or_append_left, get_or_push, length-reverse, reverse-append, reverse-reverse, take_all, take_more}
use Rattle.std.specs.Str.{bytes_eq}
use Rattle.std.proofs.lemmas.Map.Keys.{Less-from_sorted}
use native.Mathlib.Decide.{ℕ_discrete}
use Prim.{yes, no}
use Rattle.ghg_definitions.specs.Data.{Data, Name, name_cmp}
use Rattle.ghg_definitions.specs.Listed.{IsListed}
use Rattle.ghg_definitions.specs.Rings.{IsAcyclic, IsRing, Leads, Takes}
use Rattle.ghg_definitions.proofs.Listed.{from_map, in_either}
use Rattle.ghg_definitions.proofs.Rings.{takes}
use Rattle.ghg_graph.specs.Links.{IsLink, IsOrder, IsPlaced, Links}
use Rattle.ghg_graph.specs.Numbers.{AreNumbers, IsNumbering, name_at}
use Rattle.ghg_graph.proofs.Marks.{at_listed, from_reverse, link_inside, listed_reverse}
use Rattle.ghg_graph.proofs.Named.{at_name, less_or_not}
use Rattle.ghg_layers.specs.Lines.{ArePlaces}
use Rattle.ghg_layers.specs.Ranks.{number_in}

-- ---- one name has one number

not_tied : (x y : Name) → x ≡ y → name_cmp x y ≡ Less → ⊥
not_tied x y e l = clash (sym (tied_itself nat_list_cmp_total x) ∙ ap (name_cmp x) e ∙ l)
  where
    clash : ◌≡◌ {A = Ordering} Equal Less → ⊥
    clash f = cc

one_number : (xs : List Name) → IsStrictlySortedBy name_cmp xs → (i j : ℕ) → i < length xs → j < length xs → name_at xs i ≡ name_at xs j → i ≡ j
one_number xs sorted i j a b e = elim (less_or_not i j) [
  | inl l ↦ absurd (not_tied _ _ e (Less-from_sorted name_cmp xs i j [] sorted l b))
  | inr rest ↦ elim rest [ inl same ↦ same | inr l ↦ absurd (not_tied _ _ (sym e) (Less-from_sorted name_cmp xs j i [] sorted l a)) ]
]

-- ---- links have no ring where data have none

module _ {A B : Type 0} (R : A → A → Type 0) (Q : B → B → Type 0) (f : A → B) (kept : (x y : A) → R x y → Q (f x) (f y)) where
  leads_map : (xs : List A) (end : A) → Leads R xs end → Leads Q (map f xs) (f end)
  leads_map [] end r = r
  leads_map (x ∷ []) end r = kept x end r
  leads_map (x ∷ y ∷ xs) end r = (kept x y r.0, leads_map (y ∷ xs) end r.1)

  ring_map : (xs : List A) → IsRing R xs → IsRing Q (map f xs)
  ring_map [] r = r
  ring_map (x ∷ xs) r = leads_map (x ∷ xs) x r

module _ (m : Data) (lines : List Name) (links : Links) (n : IsNumbering false m lines links) where
  to_names : (i j : ℕ) → IsLink links i j → Takes m (name_at lines i) (name_at lines j)
  to_names i j link = takes m (name_at lines i) (name_at lines j) ((n.targets i (subst (λ c. i < c) n.count (link_inside links i j link))).named j link)

  pub no_ring : IsAcyclic m → (ring : List ℕ) → IsRing (IsLink links) ring → ⊥
  no_ring acyclic ring is = acyclic (map (name_at lines) ring) (ring_map (IsLink links) (Takes m) (name_at lines) to_names ring is)

-- ---- what a line takes stands before it

closed : (links : Links) (done : List ℕ) → IsPlaced links done → (x t : ℕ) → IsListed x done → IsLink links x t → IsListed t done
closed links [] placed x t i link = absurd i
closed links (y ∷ done) placed x t (inl e) link = inr (placed.1 t (subst (λ z. IsLink links z t) e link))
closed links (y ∷ done) placed x t (inr i) link = inr (closed links done placed.2 x t i link)

at_last : (done : List ℕ) (x : ℕ) → get_or (reverse (x ∷ done)) (length done) 0 ≡ x
at_last done x = ap (λ xs. get_or xs (length done) 0) (reverse-append (x ∷ []) done) ∙ get_or_push (reverse done) x 0 (length done) (length-reverse done)

at_before : (done : List ℕ) (x i : ℕ) → i < length done → get_or (reverse (x ∷ done)) i 0 ≡ get_or (reverse done) i 0
at_before done x i h = ap (λ xs. get_or xs i 0) (reverse-append (x ∷ []) done) ∙ get_or_append_left (reverse done) (x ∷ []) 0 i (subst (λ c. i < c) (sym (length-reverse done)) h)

listed_at : (done : List ℕ) (i : ℕ) → i < length done → IsListed (get_or (reverse done) i 0) done
listed_at done i h = from_reverse _ done (at_listed (reverse done) i (subst (λ c. i < c) (sym (length-reverse done)) h))

before : (links : Links) (done : List ℕ) → IsPlaced links done → (i j : ℕ) → i < length done → j < length done → IsLink links (get_or (reverse done) i 0) (get_or (reverse done) j 0) → j < i
before links [] placed i j h l link = absurd (omega (arith, h))
before links (x ∷ done) placed i j h l link = elim (either i (length done) h) [
  | inl small ↦ elim (either j (length done) l) [
    | inl low ↦ before links done placed.2 i j small low (subst (λ y. IsLink links y (get_or (reverse done) j 0)) (at_before done x i small) (subst (IsLink links (get_or (reverse (x ∷ done)) i 0)) (at_before done x j low) link))
    | inr last ↦ absurd (placed.0 (closed links done placed.2 (get_or (reverse done) i 0) x (listed_at done i small)
        (subst (λ y. IsLink links y x) (at_before done x i small) (subst (IsLink links (get_or (reverse (x ∷ done)) i 0)) (ap (λ k. get_or (reverse (x ∷ done)) k 0) last ∙ at_last done x) link))))
  ]
  | inr top ↦ elim (either j (length done) l) [
    | inl low ↦ omega (arith, low, top)
    | inr last ↦ absurd (placed.0 (placed.1 x (subst (λ y. IsLink links y x) (ap (λ k. get_or (reverse (x ∷ done)) k 0) top ∙ at_last done x)
        (subst (IsLink links (get_or (reverse (x ∷ done)) i 0)) (ap (λ k. get_or (reverse (x ∷ done)) k 0) last ∙ at_last done x) link))))
  ]
]
  where
    either : (i n : ℕ) → i < suc n → (i < n) ⊎ (i ≡ n)
    either i n h = grind (arith, h)

order_before : (links : Links) (order : List ℕ) → IsOrder links order → (i j : ℕ) → i < length order → j < length order → IsLink links (get_or order i 0) (get_or order j 0) → j < i
order_before links order is i j h l link =
    let back = reverse-reverse order in
    let wide = sym (length-reverse order) in
    before links (reverse order) is.placed i j (subst (λ c. i < c) wide h) (subst (λ c. j < c) wide l)
    (subst (λ xs. IsLink links (get_or xs i 0) (get_or xs j 0)) (sym back) link)

-- ---- places so far

pub record ArePlacesTo (count : ℕ) (order : List ℕ) (k : ℕ) (places : List ℕ) : Type 0 where
  pub wide : length places ≡ count
  pub found : (i : ℕ) → IsListed i (take k order) → (get_or places i 0 < k) × (get_or order (get_or places i 0) 0 ≡ i)

pub no_places : (count : ℕ) (order places : List ℕ) → length places ≡ count → ArePlacesTo count order 0 places
no_places count order places wide = record { wide = wide; found = λ i none. absurd none }

pub number_within : (links : Links) (order : List ℕ) → IsOrder links order → (k : ℕ) → k < length order → get_or order k 0 < length links
number_within links order o k h = o.within (get_or order k 0) (listed_reverse _ order (at_listed order k h))

pub place_more : (links : Links) (order : List ℕ) → IsOrder links order → (k : ℕ) → k < length order → (old new : List ℕ) → new ≡ set old (get_or order k 0) k
    → ArePlacesTo (length links) order k old → ArePlacesTo (length links) order (k + 1) new
place_more links order o k h old new e are = record {
  wide = ap length e ∙ length-set old (get_or order k 0) k ∙ are.wide;
  found = λ i l. elim (ℕ_discrete i (get_or order k 0)) [
    | yes same ↦ let here : get_or new i 0 ≡ k = ap₂ (λ xs j. get_or xs j 0) e same ∙ get_or-set_same old (get_or order k 0) k 0 (subst (λ c. get_or order k 0 < c) (sym are.wide) (number_within links order o k h)) in
        (omega (arith, here), ap (λ j. get_or order j 0) here ∙ sym same)
    | no other ↦
        let there : get_or new i 0 ≡ get_or old i 0 = ap (λ xs. get_or xs i 0) e ∙ get_or-set_other old (get_or order k 0) i k 0 other in
        let was = are.found i (elim (in_either i (take k order) (get_or order k 0 ∷ []) (subst (IsListed i) (take_more order k 0 h) l)) [ inl j ↦ j | inr j ↦ elim j [ inl same ↦ absurd (other same) | inr none ↦ absurd none ] ]) in
        let low = was.0 in (omega (arith, low, there), ap (λ j. get_or order j 0) there ∙ was.1)
  ];
}

pub places_are : (links : Links) (order : List ℕ) → IsOrder links order → (places : List ℕ) → ArePlacesTo (length links) order (length order) places → ArePlaces links places
places_are links order o places are = record {
  count = are.wide;
  behind = λ i j link.
      let i_listed = o.complete i (link_inside links i j link) in
      let at_i = are.found i (all i (from_reverse i order i_listed)) in
      let at_j = are.found j (all j (from_reverse j order (closed links (reverse order) o.placed i j i_listed link))) in
      order_before links order o (get_or places i 0) (get_or places j 0) at_i.0 at_j.0
      (subst (λ x. IsLink links x (get_or order (get_or places j 0) 0)) (sym at_i.1) (subst (IsLink links i) (sym at_j.1) link));
}
  where
    all : (i : ℕ) → IsListed i order → IsListed i (take (length order) order)
    all i l = subst (IsListed i) (sym (take_all (length order) order (omega arith))) l

-- ---- numbers by names

pub number_is : (xs : List Name) (name : Name) → IsListed name xs → (number_in xs name < length xs) × (name_at xs (number_in xs name) ≡ name)
number_is [] name i = absurd i
number_is (x ∷ xs) name i = by (bytes_eq x name) refl i (number_is xs name)
  where
    by : (b : Bool) → bytes_eq x name ≡ b → IsListed name (x ∷ xs) → (IsListed name xs → (number_in xs name < length xs) × (name_at xs (number_in xs name) ≡ name)) → ((if b then 0 else suc (number_in xs name)) < length (x ∷ xs)) × (name_at (x ∷ xs) (if b then 0 else suc (number_in xs name)) ≡ name)
    by true e i rest = (omega arith, (bytes_decides x name).0 e)
    by false e (inl is) rest = absurd (clash (sym e ∙ (bytes_decides x name).1 (sym is)))
      where
        clash : ◌≡◌ {A = Bool} false true → ⊥
        clash f = cc
    by false e (inr j) rest = let there = rest j in let small = there.0 in (omega (arith, small), there.1)

-- behind all names
pub number_out : (xs : List Name) (name : Name) → (IsListed name xs → ⊥) → number_in xs name ≡ length xs
number_out [] name off = refl
number_out (x ∷ xs) name off = by (bytes_eq x name) refl (number_out xs name (λ i. off (inr i)))
  where
    by : (b : Bool) → bytes_eq x name ≡ b → number_in xs name ≡ length xs → (if b then 0 else suc (number_in xs name)) ≡ length (x ∷ xs)
    by true e rest = absurd (off (inl (sym ((bytes_decides x name).0 e))))
    by false e rest = omega (arith, rest)

-- a place among the names is that of the name
pub number_found : (xs : List Name) (name : Name) (i : ℕ) → i < length xs → number_in xs name ≡ i → name_at xs i ≡ name
number_found [] name i h e = absurd (omega (arith, h))
number_found (x ∷ xs) name i h e = by (bytes_eq x name) refl i h e (λ j l f. number_found xs name j l f)
  where
    by : (b : Bool) → bytes_eq x name ≡ b → (i : ℕ) → i < length (x ∷ xs) → (if b then 0 else suc (number_in xs name)) ≡ i → ((j : ℕ) → j < length xs → number_in xs name ≡ j → name_at xs j ≡ name) → name_at (x ∷ xs) i ≡ name
    by true is zero h e rest = (bytes_decides x name).0 is
    by true is (suc i) h e rest = absurd (omega (arith, e))
    by false is zero h e rest = absurd (omega (arith, e))
    by false is (suc i) h e rest = rest i (omega (arith, h)) (omega (arith, e))

pub number_of_name : (xs : List Name) → IsStrictlySortedBy name_cmp xs → (i : ℕ) (name : Name) → i < length xs → name_at xs i ≡ name → number_in xs name ≡ i
number_of_name xs sorted i name h e =
    let there = number_is xs name (subst (λ x. IsListed x xs) e (at_name xs i h)) in
    one_number xs sorted (number_in xs name) i there.0 h (there.1 ∙ sym e)

-- the number of a name that is meant is among the numbers
pub number_listed : (xs : List Name) → IsStrictlySortedBy name_cmp xs → (numbers : List ℕ) (names : List Name) → AreNumbers xs numbers names → (i : ℕ) → i < length xs → IsListed (name_at xs i) names → IsListed i numbers
number_listed xs sorted numbers names are i h l =
    let from = from_map (name_at xs) (name_at xs i) numbers (are.complete (name_at xs i) l (at_name xs i h)) in
    subst (λ j. IsListed j numbers) (sym (one_number xs sorted i from.0 h (are.within from.0 from.1) from.2)) from.1
