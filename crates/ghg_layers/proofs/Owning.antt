-- The ranks of equivalents are taken in at the categories of their lines.
use Rattle.std.proofs.Common.{◌≡◌, ◌⊎◌, ℕ, suc, ◌+◌, ◌-◌, ◌^◌, ◌<◌, ◌≤◌, true, ◌==◌, List, [], ◌∷◌, ◌++◌, length, take, get_or, Vec, Global, Option, Some, None, refl, sym, ap, ap₂, ◌∙◌, subst, inl, inr, arith}
use Rattle.std.specs.List.Sorted.{IsStrictlySortedBy}
use Rattle.std.proofs.lemmas.List.{take_all, take_more}
use Rattle.std.proofs.lemmas.Option.{same_Some}
use native.Mathlib.Decide.{ℕ_discrete}
use Prim.{yes, no}
use Rattle.ghg_categories.specs.declared.category.Category.{Category}
use Rattle.ghg_categories.specs.Places.{place_of}
use Rattle.ghg_categories.proofs.Places.{places_equal}
use Rattle.ghg_definitions.proofs.NodeLists.{category_same}
use Rattle.ghg_units.specs.declared.node.Node.{Node}
use Rattle.ghg_units.specs.declared.node.Node.TheVariants as node
use Rattle.ghg_definitions.specs.Data.{Data, Name, category, name_cmp}
use Rattle.ghg_definitions.specs.Listed.{IsListed}
use Rattle.ghg_definitions.specs.Nodes.{name_of, year_in}
use Rattle.ghg_definitions.proofs.Listed.{in_either, listed_left, listed_right}
use Rattle.ghg_layers.specs.declared.grid.Grid.{Grid}
use Rattle.ghg_layers.specs.declared.ranks.Ranks.{Ranks}
use Rattle.ghg_layers.specs.Grids.{IsSet, cell, height}
use Rattle.ghg_layers.specs.Ranks.{AreOwn, IsRaised, IsRanking, KeepsLines, line_rank, number_in, own_rank}

same_true : (a b : ℕ) → a ≡ b → (a == b) ≡ true
same_true a b e = grind (arith, e)

places_apart : (c d : Category) → place_of c ≡ place_of d → c ≡ d
places_apart c d e = (category_same c d).0 (sym (places_equal c d) ∙ same_true (place_of c) (place_of d) e)

-- ---- one rank

pub not_raised : (year rank : ℕ) (g : Grid) → IsRaised None year rank g g
not_raised year rank g = record { least = λ d e. absurd (clash e); kept = λ row z. omega arith; met = λ d z. inl refl }
  where
    clash : {d : Category} → ◌≡◌ {A = Option Category} None (Some d) → ⊥
    clash e = cc

pub low_rank : (c : Category) (year rank : ℕ) (g : Grid) → rank ≤ cell g (place_of c) year → IsRaised (Some c) year rank g g
low_rank c year rank g low = record {
  least = λ d e. let same = ap (λ x. cell g (place_of x) year) (same_Some c d e) in omega (arith, same, low);
  kept = λ row z. omega arith;
  met = λ d z. inl refl;
}

module _ (c : Category) (year rank : ℕ) (old new : Grid) (set : IsSet (place_of c) year rank old new) (high : cell old (place_of c) year < rank) where
  either : (row z : ℕ) → ((row ≡ place_of c) × (z ≡ year)) ⊎ (cell new row z ≡ cell old row z)
  either row z = elim (ℕ_discrete row (place_of c)) [
    | yes a ↦ elim (ℕ_discrete z year) [ yes b ↦ inl (a, b) | no off ↦ inr (set.others row z (λ _ f. off f)) ]
    | no off ↦ inr (set.others row z (λ f _. off f))
  ]

  pub high_rank : IsRaised (Some c) year rank old new
  high_rank = record {
    least = λ d e. let same = ap (λ x. cell new (place_of x) year) (sym (same_Some c d e)) ∙ set.itself in omega (arith, same);
    kept = λ row z. elim (either row z) [
      | inl is ↦ let now = ap₂ (cell new) is.0 is.1 ∙ set.itself in let was = ap₂ (cell old) is.0 is.1 in omega (arith, now, was, high)
      | inr same ↦ omega (arith, same)
    ];
    met = λ d z. elim (either (place_of d) z) [
      | inl is ↦ inr (ap Some (sym (places_apart d c is.0)), is.1, ap₂ (cell new) is.0 is.1 ∙ set.itself)
      | inr same ↦ inl same
    ];
  }

-- ---- the ranks of nodes

module _ (m : Data) (ns : List Node) where
  pub record AreOwnTo (k : ℕ) (r : Ranks) : Type 0 where
    pub least : (name : Name) (year : ℕ) (c : Category) → IsListed (node.Equiv name year) (take k ns) → category m name ≡ Some c → line_rank r name year + 1 ≤ own_rank r c year
    pub met : (c : Category) (year v : ℕ) → r.first ≤ year → own_rank r c year ≡ suc v →
        (name : Name) × IsListed (node.Equiv name year) (take k ns) × (category m name ≡ Some c) × (line_rank r name year ≡ v)

  pub none_own : (r : Ranks) → ((row year : ℕ) → cell r.own row year ≡ 0) → AreOwnTo 0 r
  none_own r none = record {
    least = λ name year c i at. absurd i;
    met = λ c year v low e. absurd (let z = none (place_of c) (year - r.first) in omega (arith, z, e));
  }

  module _ (k : ℕ) (n : Node) (h : k < length ns) (e : n ≡ get_or ns k n) (r : Ranks) (are : AreOwnTo k r) where
    taken : take (k + 1) ns ≡ take k ns ++ n ∷ []
    taken = take_more ns k n h ∙ ap (λ x. take k ns ++ x ∷ []) (sym e)

    more : (x : Node) → IsListed x (take k ns) → IsListed x (take (k + 1) ns)
    more x i = subst (IsListed x) (sym taken) (listed_left x (take k ns) (n ∷ []) i)

    last_or : (x : Node) → IsListed x (take (k + 1) ns) → IsListed x (take k ns) ⊎ (x ≡ n)
    last_or x i = elim (in_either x (take k ns) (n ∷ []) (subst (IsListed x) taken i)) [ inl j ↦ inl j | inr j ↦ elim j [ inl f ↦ inr f | inr none ↦ absurd none ] ]

    pub own_same : ((name : Name) (year : ℕ) → n ≡ node.Equiv name year → ⊥) → AreOwnTo (k + 1) r
    own_same other = record {
      least = λ name year c i at. elim (last_or _ i) [ inl j ↦ are.least name year c j at | inr f ↦ absurd (other name year (sym f)) ];
      met = λ c year v low e. let was = are.met c year v low e in (was.0, more (node.Equiv was.0 year) was.1, was.2, was.3);
    }

    pub own_more : (name : Name) (year : ℕ) → n ≡ node.Equiv name year → r.first ≤ year → (new : Ranks) → KeepsLines r new → IsRaised (category m name) (year - r.first) (line_rank r name year + 1) r.own new.own → AreOwnTo (k + 1) new
    own_more name year is low new keeps up = record {
      least = λ j y c i at. elim (last_or _ i) [
        | inl l ↦
            let was = are.least j y c l at in
            let kept = up.kept (place_of c) (y - r.first) in
            let now = own_now c y in
            let line = line_now j y in omega (arith, was, kept, now, line)
        | inr f ↦
            let same_name = ap name_of (f ∙ is) in
            let same_year = ap year_in (f ∙ is) in
            let least = up.least c (ap (category m) (sym same_name) ∙ at) in
            let now = own_now c y in
            let line = line_now j y ∙ ap₂ (line_rank r) same_name same_year in
            let there = ap (λ z. cell new.own (place_of c) (z - r.first)) same_year in omega (arith, least, now, line, there)
      ];
      met = λ c y v h e. elim (up.met c (y - r.first)) [
        | inl same ↦
            let was = are.met c y v (subst (λ z. z ≤ y) keeps.first h) (sym same ∙ sym (own_now c y) ∙ e) in
            (was.0, more (node.Equiv was.0 y) was.1, was.2, line_now was.0 y ∙ was.3)
        | inr put ↦
            let first = subst (λ z. z ≤ y) keeps.first h in
            let apart = put.1 in
            let same : y ≡ year = omega (arith, apart, first, low) in
            let now = put.2 in
            let own = own_now c y in
            let line = line_now name y ∙ ap (line_rank r name) same in (
              name,
              subst (IsListed (node.Equiv name y)) (sym taken) (listed_right (node.Equiv name y) (take k ns) (n ∷ []) (inl (ap (node.Equiv name) same ∙ sym is))),
              put.0,
              omega (arith, now, own, line, e),
            )
      ];
    }
      where
        line_now : (j : Name) (y : ℕ) → line_rank new j y ≡ line_rank r j y
        line_now j y = ap₂ (λ (g : Grid) (i : ℕ). cell g i (y - new.first)) keeps.lines (ap (λ (v : Vec Name Global). number_in v.items j) keeps.names) ∙ ap (λ f. cell r.lines (number_in r.names.items j) (y - f)) keeps.first

        own_now : (c : Category) (y : ℕ) → own_rank new c y ≡ cell new.own (place_of c) (y - r.first)
        own_now c y = ap (λ z. cell new.own (place_of c) (y - z)) keeps.first

  pub all_own : (k : ℕ) → length ns ≤ k → (r : Ranks) → AreOwnTo k r → AreOwn m ns r
  all_own k h r are = record {
    least = λ name year c i at. are.least name year c (subst (IsListed (node.Equiv name year)) (sym (take_all k ns h)) i) at;
    met = λ c year v low e. let was = are.met c year v low e in (was.0, subst (IsListed (node.Equiv was.0 year)) (take_all k ns h) was.1, was.2, was.3);
  }

-- ---- a ranking stays one

pub keeps_on : (old mid new : Ranks) → KeepsLines old mid → KeepsLines mid new → KeepsLines old new
keeps_on old mid new a b = record { first = b.first ∙ a.first; names = b.names ∙ a.names; lines = b.lines ∙ a.lines }

pub ranking_on : (r new : Ranks) → IsRanking r → KeepsLines r new → height new.own ≡ height r.own → (c : Option Category) (year rank : ℕ) → IsRaised c year rank r.own new.own → rank ≤ 2 ^ 63 → IsRanking new
ranking_on r new is keeps high c year rank up low = record {
  order = subst (λ (v : Vec Name Global). IsStrictlySortedBy name_cmp v.items) (sym keeps.names) is.order;
  lines = ap height keeps.lines ∙ is.lines ∙ ap (λ (v : Vec Name Global). length v.items) (sym keeps.names);
  own = high ∙ is.own;
  small = λ i y. subst (λ (g : Grid). cell g i y < 2 ^ 63) (sym keeps.lines) (is.small i y);
  own_small = λ d y. elim (up.met d y) [
    | inl same ↦ subst (λ n. n ≤ 2 ^ 63) (sym same) (is.own_small d y)
    | inr put ↦ subst (λ n. n ≤ 2 ^ 63) (sym put.2) low
  ];
}
