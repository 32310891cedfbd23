-- A line's turn comes behind those of the lines that it takes.
use Rattle.std.proofs.Common.{◌≡◌, ◌⊎◌, ℕ, ◌+◌, ◌-◌, ◌<◌, ◌≤◌, Bool, true, false, cond, nat_lt, ◌==◌, List, [], ◌∷◌, ◌++◌, length, take, get_or, Ordering, Less, Equal, Greater, refl, sym, ap, ap₂, ◌∙◌, subst, inl, inr, arith}
use Rattle.std.specs.Cmp.{tied_itself}
use Rattle.std.specs.Ordering.{is_lt, nat_cmp, ordering_then}
use Rattle.std.specs.List.Sorted.{IsPermutation, IsSorted}
use Rattle.std.proofs.lemmas.Cmp.{nat_cmp_total}
use Rattle.std.proofs.lemmas.List.{get_or_default, take_all, take_more}
use Rattle.std.proofs.lemmas.List.Sorted.{Contains-permutation, IsPermutation-sym, ranks_by, sorted_far}
use Rattle.ghg_units.specs.declared.node.Node.{Node}
use Rattle.ghg_units.specs.declared.node.Node.TheVariants as node
use Rattle.ghg_definitions.specs.Data.{Data, Name}
use Rattle.ghg_definitions.specs.Listed.{IsListed}
use Rattle.ghg_definitions.specs.Nodes.{name_of, year_in}
use Rattle.ghg_definitions.proofs.Listed.{contained, in_either, listed, listed_left, listed_right}
use Rattle.ghg_graph.specs.Numbers.{name_at}
use Rattle.ghg_layers.specs.contracts.turns.TurnOrd.TheImpl.Laws as turn_laws
use Rattle.ghg_layers.specs.declared.lines.Lines.{Lines}
use Rattle.ghg_layers.specs.declared.turns.Turn.{Turn}
use Rattle.ghg_layers.specs.Lines.{AreLines}
use Rattle.ghg_layers.specs.Turns.{AreTurns, IsTurnOf, turn_order}

-- ---- order

less_first : (a b : ℕ) (rest : Ordering) → a < b → ordering_then (nat_cmp a b) rest ≡ Less
less_first a b rest h = ap (λ t. ordering_then (cond t Less (cond (a == b) Equal Greater)) rest) (yes a b h)
  where
    yes : (a b : ℕ) → a < b → nat_lt a b ≡ true
    yes a b h = grind (arith, h)

equal_first : (a b : ℕ) (rest : Ordering) → a ≡ b → ordering_then (nat_cmp a b) rest ≡ rest
equal_first a b rest e = ap (λ o. ordering_then o rest) (ap (λ x. nat_cmp x b) e ∙ tied_itself nat_cmp_total b)

pub earlier_year : (s t : Turn) → s.year < t.year → turn_order s t ≡ Less
earlier_year s t h = less_first s.year t.year _ h

pub earlier_place : (s t : Turn) → s.year ≡ t.year → s.place < t.place → turn_order s t ≡ Less
earlier_place s t e h = equal_first s.year t.year _ e ∙ less_first s.place t.place _ h

-- what stands before another in sorted turns is not behind it
pub not_less : (ts : List Turn) → IsSorted turn_order ts → (i j : ℕ) (d : Turn) → i ≤ j → j < length ts → turn_order (get_or ts j d) (get_or ts i d) ≡ Less → ⊥
not_less ts sorted i j d h l less = clash (sym (sorted_far (λ x y. is_lt (turn_order x y)) (ranks_by turn_laws.total-law (λ x. x)) ts sorted i j d h l) ∙ ap is_lt less)
  where
    clash : ◌≡◌ {A = Bool} false true → ⊥
    clash e = cc

-- ---- the turns of nodes

module _ (l : Lines) (first : ℕ) (ns : List Node) where
  pub record AreTurnsTo (k : ℕ) (turns : List Turn) : Type 0 where
    pub each : (t : Turn) → IsListed t turns → IsTurnOf l t
    pub given : (t : Turn) → IsListed t turns → IsListed (node.Line (name_at l.names.items t.number) (first + t.year)) ns
    pub all : (name : Name) (year : ℕ) → IsListed (node.Line name year) (take k ns) →
        (t : Turn) × IsListed t turns × (name_at l.names.items t.number ≡ name) × (first + t.year ≡ year)

  pub no_turns : AreTurnsTo 0 []
  no_turns = record { each = λ t i. absurd i; given = λ t i. absurd i; all = λ name year i. absurd i }

  module _ (k : ℕ) (n : Node) (h : k < length ns) (e : n ≡ get_or ns k n) (turns : List Turn) (are : AreTurnsTo k turns) where
    taken : take (k + 1) ns ≡ take k ns ++ n ∷ []
    taken = take_more ns k n h ∙ ap (λ x. take k ns ++ x ∷ []) (sym e)

    n_listed : IsListed n ns
    n_listed = listed ns n (k, h, sym e)

    -- a node that is no line's value
    pub turns_same : ((name : Name) (year : ℕ) → n ≡ node.Line name year → ⊥) → AreTurnsTo (k + 1) turns
    turns_same other = record {
      each = are.each;
      given = are.given;
      all = λ name year i. elim (in_either _ (take k ns) (n ∷ []) (subst (IsListed (node.Line name year)) taken i)) [
        | inl j ↦ are.all name year j
        | inr j ↦ elim j [ inl same ↦ absurd (other name year (sym same)) | inr none ↦ absurd none ]
      ];
    }

    pub turns_more : (t : Turn) (now : List Turn) → now ≡ turns ++ t ∷ [] → IsTurnOf l t → n ≡ node.Line (name_at l.names.items t.number) (first + t.year) → AreTurnsTo (k + 1) now
    turns_more t now pushed is at = record {
      each = λ s i. elim (from s i) [ inl j ↦ are.each s j | inr same ↦ subst (IsTurnOf l) (sym same) is ];
      given = λ s i. elim (from s i) [
        | inl j ↦ are.given s j
        | inr same ↦ subst (λ (x : Turn). IsListed (node.Line (name_at l.names.items x.number) (first + x.year)) ns) (sym same) (subst (λ x. IsListed x ns) at n_listed)
      ];
      all = λ name year i. elim (in_either _ (take k ns) (n ∷ []) (subst (IsListed (node.Line name year)) taken i)) [
        | inl j ↦ let was = are.all name year j in (was.0, subst (IsListed was.0) (sym pushed) (listed_left was.0 turns (t ∷ []) was.1), was.2, was.3)
        | inr j ↦ elim j [
          | inl same ↦ (t, subst (IsListed t) (sym pushed) (listed_right t turns (t ∷ []) (inl refl)), sym (ap name_of (same ∙ at)), sym (ap year_in (same ∙ at)))
          | inr none ↦ absurd none
        ]
      ];
    }
      where
        from : (s : Turn) → IsListed s now → IsListed s turns ⊎ (s ≡ t)
        from s i = elim (in_either s turns (t ∷ []) (subst (IsListed s) pushed i)) [ inl j ↦ inl j | inr j ↦ elim j [ inl same ↦ inr same | inr none ↦ absurd none ] ]

  -- a given line more
  pub line_more : (k : ℕ) (n : Node) → k < length ns → n ≡ get_or ns k n → (turns : List Turn) → AreTurnsTo k turns → (m : Data) → AreLines m l → (name : Name) (year number place : ℕ) → first ≤ year → n ≡ node.Line name year
      → (number < length l.names.items) × (name_at l.names.items number ≡ name) → place ≡ get_or l.places.items number place → (now : List Turn) → now ≡ turns ++ record { year = year - first; place = place; number = number } ∷ [] → AreTurnsTo (k + 1) now
  line_more k n h e turns are m lines name year number place low is at read now pushed =
      let wide : length l.places.items ≡ length l.names.items = lines.places.count ∙ lines.links.count in
      let within : number < length l.places.items = subst (λ c. number < c) (sym wide) at.0 in
      let year_is : year ≡ first + (year - first) = omega (arith, low) in
      turns_more k n h e turns are (record { year = year - first; place = place; number = number }) now pushed
      (record { number = at.0; place = read ∙ get_or_default l.places.items number place 0 within }) (is ∙ ap₂ node.Line (sym at.1) year_is)

  pub turns_sorted : (k : ℕ) → length ns ≤ k → (old turns : List Turn) → AreTurnsTo k old → IsPermutation old turns → AreTurns l first ns turns
  turns_sorted k h old turns are moved = record {
    each = λ t i. are.each t (back t i);
    given = λ t i. are.given t (back t i);
    all = λ name year i.
        let was = are.all name year (subst (IsListed (node.Line name year)) (sym (take_all k ns h)) i) in
        (was.0, listed turns was.0 (Contains-permutation old turns was.0 moved (contained old was.0 was.1)), was.2, was.3);
  }
    where
      back : (t : Turn) → IsListed t turns → IsListed t old
      back t i = listed old t (Contains-permutation turns old t (IsPermutation-sym old turns moved) (contained turns t i))
