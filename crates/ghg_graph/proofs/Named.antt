-- Orders and rings of numbers are orders and rings of the lines that they number.
use Rattle.std.proofs.Common.{◌≡◌, ◌≢◌, ◌⊎◌, ℕ, zero, suc, ◌<◌, Bool, true, false, is_some, if◌then◌else◌, List, [], ◌∷◌, ◌++◌, length, map, reverse, Ordering, Less, Equal, Greater, refl, sym, ap, ◌∙◌, subst, inl, inr, arith}
use Rattle.std.specs.Prelude.{⊤}
use Rattle.std.proofs.lemmas.List.{append-nil, append_assoc, map-append, reverse-append, reverse-reverse}
use Rattle.std.specs.Cmp.{tied_itself}
use Rattle.std.specs.Cmp.Lexicographic.{bytes_decides, nat_list_cmp_total}
use Rattle.std.specs.List.{AllByRecursion}
use Rattle.std.specs.List.Sorted.{IsStrictlySortedBy}
use Rattle.std.specs.Str.{bytes_eq}
use Rattle.ghg_definitions.specs.Data.{Data, Name, line, line_names, name_cmp}
use Rattle.ghg_definitions.specs.Rings.{IsAcyclic, IsRing, Leads, Takes}
use Rattle.ghg_definitions.specs.Sound.{IsWorkbook}
use Rattle.ghg_definitions.proofs.Grounded.{line_listed}
use Rattle.ghg_definitions.proofs.Lines.{lines_sorted}
use Rattle.ghg_definitions.specs.Listed.{IsListed}
use Rattle.ghg_definitions.proofs.Listed.{contained, from_map, in_either, listed, listed_left, listed_map, listed_right}
use Rattle.ghg_definitions.proofs.NodeLists.{lines_are}
use Rattle.ghg_definitions.proofs.Rings.{taken_of, taken_present, takes}
use Rattle.ghg_graph.specs.Links.{IsLeast, IsLink, IsOrder, IsPlaced, Links, targets_of}
use Rattle.ghg_graph.specs.Numbers.{AreNamesOf, IsNumbering, name_at}
use Rattle.ghg_graph.specs.Ordering.{IsBehind, IsLineOrder}
use Rattle.ghg_graph.specs.Refusal.{IfRing, IsLeastRingOf}
use Rattle.ghg_graph.specs.declared.rings.CycleRefusal.{CycleRefusal}
use Rattle.ghg_graph.specs.declared.rings.CycleRefusal.TheVariants as refusal
use Rattle.ghg_graph.proofs.Marks.{from_reverse, link_inside}
use Rattle.ghg_graph.proofs.Ordered.{behind_more, next, off_rings}

-- ---- names in order

first_is_less : (x : Name) (xs : List Name) (k : ℕ) → AllByRecursion (λ y. name_cmp x y ≡ Less) xs → k < length xs → name_cmp x (name_at xs k) ≡ Less
first_is_less x [] k h l = absurd (omega arith)
first_is_less x (y ∷ xs) zero h l = h.0
first_is_less x (y ∷ xs) (suc k) h l = first_is_less x xs k h.1 (omega arith)

less_at : (xs : List Name) → IsStrictlySortedBy name_cmp xs → (i j : ℕ) → i < j → j < length xs → name_cmp (name_at xs i) (name_at xs j) ≡ Less
unfolding IsStrictlySortedBy
less_at [] h i j l b = absurd (omega arith)
less_at (x ∷ xs) h zero zero l b = absurd (omega arith)
less_at (x ∷ xs) h zero (suc j) l b = first_is_less x xs j h.0 (omega arith)
less_at (x ∷ xs) h (suc i) zero l b = absurd (omega arith)
less_at (x ∷ xs) h (suc i) (suc j) l b = less_at xs h.1 i j (omega arith) (omega arith)

pub less_or_not : (i j : ℕ) → (i < j) ⊎ ((i ≡ j) ⊎ (j < i))
less_or_not i j = grind arith

not_tied : (x y : Name) → x ≡ y → name_cmp x y ≡ Less → ⊥
not_tied x y e l = clash (sym (tied_itself nat_list_cmp_total x) ∙ ap (name_cmp x) e ∙ l)
  where
    clash : ◌≡◌ {A = Ordering} Equal Less → ⊥
    clash f = cc

not_greater : (o : Ordering) → o ≡ Less → o ≢ Greater
not_greater o e f = cc

not_greater_tied : (o : Ordering) → o ≡ Equal → o ≢ Greater
not_greater_tied o e f = cc

-- one name has one number
one_number : (xs : List Name) → IsStrictlySortedBy name_cmp xs → (i j : ℕ) → i < length xs → j < length xs → name_at xs i ≡ name_at xs j → i ≡ j
one_number xs sorted i j a b e = elim (less_or_not i j) [
  | inl l ↦ absurd (not_tied _ _ e (less_at xs sorted i j l b))
  | inr rest ↦ elim rest [ inl same ↦ same | inr l ↦ absurd (not_tied _ _ (sym e) (less_at xs sorted j i l a)) ]
]

pub at_name : (xs : List Name) (k : ℕ) → k < length xs → IsListed (name_at xs k) xs
at_name [] k h = absurd (omega arith)
at_name (x ∷ xs) zero h = inl refl
at_name (x ∷ xs) (suc k) h = inr (at_name xs k (omega arith))

-- the place of a name
pub number_in : List Name → Name → ℕ
number_in [] name = 0
number_in (x ∷ xs) name = if bytes_eq x name then 0 else suc (number_in xs name)

pub number_is : (xs : List Name) (name : Name) → IsListed name xs → (number_in xs name < length xs) × (name_at xs (number_in xs name) ≡ name)
unfolding number_in
number_is [] name i = absurd i
number_is (x ∷ xs) name i = by (bytes_eq x name) refl i (number_is xs name)
  where
    by : (b : Bool) → bytes_eq x name ≡ b → IsListed name (x ∷ xs) → (IsListed name xs → (number_in xs name < length xs) × (name_at xs (number_in xs name) ≡ name)) → ((if b then 0 else suc (number_in xs name)) < length (x ∷ xs)) × (name_at (x ∷ xs) (if b then 0 else suc (number_in xs name)) ≡ name)
    by true e i rest = (omega arith, (bytes_decides x name).0 e)
    by false e (inl is) rest = absurd (clash (sym e ∙ (bytes_decides x name).1 (sym is)))
      where
        clash : ◌≡◌ {A = Bool} false true → ⊥
        clash f = cc
    by false e (inr j) rest = let there = rest j in let small = there.0 in (omega arith, there.1)

-- ---- lists

turned_round : (x : ℕ) (xs : List ℕ) → IsListed x xs → IsListed x (reverse xs)
turned_round x xs i = from_reverse x (reverse xs) (subst (IsListed x) (sym (reverse-reverse xs)) i)

-- what is related by one relation is related by another, where P holds
module _ {A B : Type 0} (R : A → A → Type 0) (Q : B → B → Type 0) (f : A → B) (P : A → Type 0)
    (kept : (x y : A) → P x → P y → R x y → Q (f x) (f y)) where
  leads_map : (xs : List A) (end : A) → ((x : A) → IsListed x xs → P x) → P end → Leads R xs end → Leads Q (map f xs) (f end)
  leads_map [] end all last r = r
  leads_map (x ∷ []) end all last r = kept x end (all x (inl refl)) last r
  leads_map (x ∷ y ∷ xs) end all last r = (
    kept x y (all x (inl refl)) (all y (inr (inl refl))) r.0,
    leads_map (y ∷ xs) end (λ z i. all z (inr i)) last r.1,
  )

  ring_map : (xs : List A) → ((x : A) → IsListed x xs → P x) → IsRing R xs → IsRing Q (map f xs)
  ring_map [] all r = r
  ring_map (x ∷ xs) all r = leads_map (x ∷ xs) x all (all x (inl refl)) r

-- ---- numbers below how many there are

pub order_within : (links : Links) (count : ℕ) → length links ≡ count → (order : List ℕ) → IsOrder links order → (i : ℕ) → IsListed i order → i < count
order_within links count all order is i j = subst (λ c. i < c) all (is.within i (turned_round i order j))

pub ring_within : (links : Links) (count : ℕ) → length links ≡ count → (ring : List ℕ) → IsLeast links ring → (i : ℕ) → IsListed i ring → i < count
ring_within links count all ring least i j = subst (λ c. i < c) all (link_inside links i _ (next (IsLink links) ring least.ring_from.1 i j).1)

-- ---- links by number and by name

-- the front is in order, and all other lines are these
pub record IsRest (m : Data) (front lines : List Name) : Type 0 where
  pub behind : IsBehind m [] front
  pub apart : (k : Name) → IsListed k front → IsListed k lines → ⊥
  pub present : (k : Name) → IsListed k lines → is_some (line m k) ≡ true
  pub complete : (k : Name) → is_some (line m k) ≡ true → IsListed k front ⊎ IsListed k lines

module _ (m : Data) (is : IsWorkbook m) (lines : List Name) (sorted : IsStrictlySortedBy name_cmp lines) (links : Links) (n : IsNumbering false m lines links) where
  link_within : (i j : ℕ) → IsLink links i j → i < length lines
  link_within i j link = subst (λ c. i < c) n.count (link_inside links i j link)

  target_within : (i j : ℕ) → IsLink links i j → j < length lines
  target_within i j link = (n.targets i (link_within i j link)).within j link

  to_names : (i j : ℕ) → IsLink links i j → Takes m (name_at lines i) (name_at lines j)
  to_names i j link = takes m (name_at lines i) (name_at lines j) ((n.targets i (link_within i j link)).named j link)

  -- what a numbered line takes is numbered, if it is one of the lines
  from_name : (i : ℕ) (k : Name) → i < length lines → Takes m (name_at lines i) k → IsListed k lines → (j : ℕ) × IsLink links i j × (k ≡ name_at lines j)
  from_name i k h t l = from_map (name_at lines) k (targets_of links i) ((n.targets i h).complete k (taken_of m is (name_at lines i) k t) l)

  abbrev number : Name → ℕ
  number name = number_in lines name

  -- ---- orders

  module _ (front : List Name) (rest : IsRest m front lines) where
    numbers_behind : (done : List ℕ) → IsPlaced links done → ((i : ℕ) → IsListed i done → i < length lines) → IsBehind m [] (front ++ map (name_at lines) (reverse done))
    numbers_behind [] placed within = subst (IsBehind m []) (sym (append-nil front)) rest.behind
    numbers_behind (x ∷ done) placed within =
        let small = within x (inl refl) in
        let before = map (name_at lines) (reverse done) in
        let one_more : front ++ map (name_at lines) (reverse (x ∷ done)) ≡ (front ++ before) ++ name_at lines x ∷ [] =
        ap (λ names. front ++ names) (ap (map (name_at lines)) (reverse-append (x ∷ []) done) ∙ map-append (name_at lines) (reverse done) (x ∷ []))
        ∙ sym (append_assoc front before (name_at lines x ∷ [])) in
        subst (IsBehind m []) (sym one_more) (behind_more m [] (front ++ before) (name_at lines x) (numbers_behind done placed.2 (λ i j. within i (inr j)))
        (rest.present (name_at lines x) (at_name lines x small))
        (λ i. i)
        (λ i. elim (in_either (name_at lines x) front before i) [
          | inl j ↦ rest.apart (name_at lines x) j (at_name lines x small)
          | inr j ↦
              let found = from_map (name_at lines) (name_at lines x) (reverse done) j in
              let there = from_reverse found.0 done found.1 in
              placed.0 (subst (λ l. IsListed l done) (sym (one_number lines sorted x found.0 small (within found.0 (inr there)) found.2)) there)
        ])
        (λ k t. inr (elim (rest.complete k (taken_present m is (name_at lines x) k t)) [
          | inl j ↦ listed_left k front before j
          | inr j ↦
              let found = from_name x k small t j in
              listed_right k front before (subst (λ l. IsListed l before) (sym found.2) (listed_map (name_at lines) found.0 (reverse done) (turned_round found.0 done (placed.1 found.0 found.1))))
        ])))

    named_order : (order : List ℕ) → IsOrder links order → IsLineOrder m (front ++ map (name_at lines) order)
    named_order order is = record {
      behind = subst (λ xs. IsBehind m [] (front ++ map (name_at lines) xs)) (reverse-reverse order) (numbers_behind (reverse order) is.placed (λ i j. subst (λ c. i < c) n.count (is.within i j)));
      complete = λ name e. contained _ name (elim (rest.complete name e) [
        | inl j ↦ listed_left name front (map (name_at lines) order) j
        | inr j ↦
            let there = number_is lines name j in
            let listed_there = from_reverse (number name) order (is.complete (number name) (subst (λ c. number name < c) (sym n.count) there.0)) in
            listed_right name front (map (name_at lines) order) (subst (λ l. IsListed l (map (name_at lines) order)) there.1 (listed_map (name_at lines) (number name) order listed_there))
      ]);
    }

    pub order_of : (names : List Name) → AreNamesOf lines (IsOrder links) names → IsLineOrder m (front ++ names)
    order_of names of = subst (λ ns. IsLineOrder m (front ++ ns)) (sym of.named) (named_order of.numbers of.holds)

  -- ---- rings

  module _ (among : (names : List Name) → IsRing (Takes m) names → (k : Name) → IsListed k names → IsListed k lines) where
    from_names : (k l : Name) → IsListed k lines → IsListed l lines → Takes m k l → IsLink links (number k) (number l)
    from_names k l here mine t =
        let there = number_is lines k here in
        let found = from_name (number k) l there.0 (subst (λ x. Takes m x l) (sym there.1) t) mine in
        let small = target_within (number k) found.0 found.1 in
        let its = number_is lines l mine in
        subst (IsLink links (number k)) (one_number lines sorted found.0 (number l) small its.0 (sym found.2 ∙ sym its.1)) found.1

    numbered_ring : (names : List Name) → IsRing (Takes m) names → IsRing (IsLink links) (map number names)
    numbered_ring names ring = ring_map (Takes m) (IsLink links) number (λ k. IsListed k lines) from_names names (among names ring) ring

    named_ring : (ring : List ℕ) → IsLeast links ring → IsLeastRingOf m (map (name_at lines) ring)
    named_ring [] least = absurd least.ring_from.0
    named_ring (first ∷ others) least = record {
      ring = ring_map (IsLink links) (Takes m) (name_at lines) (λ i. ⊤) (λ i j _ _ link. to_names i j link) (first ∷ others) (λ i _. tt) least.ring_from.1;
      before = λ names ring k c.
          let i = listed names k c in
          let there = number_is lines k (among names ring k i) in
          elim (less_or_not first (number k)) [
            | inl l ↦ not_greater _ (subst (λ x. name_cmp (name_at lines first) x ≡ Less) there.1 (less_at lines sorted first (number k) l there.0))
            | inr rest ↦ elim rest [
              | inl e ↦ not_greater_tied _ (ap (name_cmp (name_at lines first)) (sym (ap (name_at lines) e ∙ there.1)) ∙ tied_itself nat_list_cmp_total (name_at lines first))
              | inr l ↦ absurd (least.before (number k) (subst (λ x. number k < x) least.ring_from.0 l) (map number names) (numbered_ring names ring) (listed_map number k names i))
            ]
          ];
    }

    pub ring_of : (names : List Name) → AreNamesOf lines (IsLeast links) names → IsLeastRingOf m names
    ring_of names of = subst (IsLeastRingOf m) (sym of.named) (named_ring of.numbers of.holds)

    -- lines that have an order form no ring
    pub no_ring : (order : List ℕ) → IsOrder links order → IsAcyclic m
    no_ring order is [] ring = ring
    no_ring order is (k ∷ ks) ring =
        let there = number_is lines k (among (k ∷ ks) ring k (inl refl)) in
        off_rings links (map number (k ∷ ks)) (numbered_ring (k ∷ ks) ring) (reverse order) is.placed (number k)
        (is.complete (number k) (subst (λ c. number k < c) (sym n.count) there.0)) (inl refl)

-- ---- all lines of data

module _ (m : Data) (is : IsWorkbook m) (lines : List Name) (all : lines ≡ line_names m) where
  pub all_sorted : IsStrictlySortedBy name_cmp lines
  all_sorted = subst (IsStrictlySortedBy name_cmp) (sym all) (lines_sorted m)

  present_listed : (k : Name) → is_some (line m k) ≡ true → IsListed k lines
  present_listed k e = subst (IsListed k) (sym all) (line_listed m k e)

  pub all_lines : IsRest m [] lines
  all_lines = record {
    behind = tt;
    apart = λ k i j. i;
    present = λ k i. (lines_are m is.records k).1 (contained (line_names m) k (subst (IsListed k) all i));
    complete = λ k e. inr (present_listed k e);
  }

  pub all_rings : (names : List Name) → IsRing (Takes m) names → (k : Name) → IsListed k names → IsListed k lines
  all_rings names ring k i = present_listed k (next (Takes m) names ring k i).1.present

-- ---- rings that are refused

pub if_ring : {P Q : List Name → Type 0} → ((names : List Name) → P names → Q names) → (r : CycleRefusal) → IfRing P r → IfRing Q r
if_ring f (refusal.Ring ring) h = f ring h
if_ring f refusal.Memory h = h
