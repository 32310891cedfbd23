-- Where numbers do not rise along the links, a line from which they all fall is on no ring.
use Rattle.std.proofs.Common.{◌≡◌, ℕ, ◌+◌, ◌≤◌, ◌<◌, Bool, true, false, List, [], ◌∷◌, get_or, nat_lt, set, length-set, get_or-set_other, inl, inr, sym, ◌∙◌, subst, arith}
use Rattle.std.specs.List.{list_all}
use native.Mathlib.Decide.{ℕ_discrete}
use Prim.{yes, no}
use Rattle.ghg_definitions.specs.Listed.{IsListed}
use Rattle.ghg_definitions.specs.Rings.{Leads}
use Rattle.ghg_definitions.proofs.Alike.{first_so, second_so}
use Rattle.ghg_definitions.proofs.Chains.{turned}
use Rattle.ghg_graph.specs.Falling.{IsFalling}
use Rattle.ghg_graph.specs.Links.{IsLink, IsOnNoRing, Links, targets_of}
use Rattle.ghg_graph.specs.Stops.{AreClear}

-- what holds of all holds of each
pub each_so : (p : ℕ → Bool) (xs : List ℕ) → list_all p xs ≡ true → (x : ℕ) → IsListed x xs → p x ≡ true
each_so p [] e x i = absurd i
each_so p (y ∷ xs) e x (inl is) = subst (λ z. p z ≡ true) (sym is) (first_so (p y) _ e)
each_so p (y ∷ xs) e x (inr i) = each_so p xs (second_so (p y) _ e) x i

less : (a b : ℕ) → nat_lt a b ≡ true → a < b
less a b e = grind (arith, e)

module _ (links : Links) (numbers : List ℕ) where
  abbrev number : ℕ → ℕ
  number line = get_or numbers line 0

  never_rises : (line bound : ℕ) → bound ≤ number line + 1 → list_all (λ t. nat_lt (number t) bound) (targets_of links line) ≡ true → (t : ℕ) → IsLink links line t → number t ≤ number line
  never_rises line bound h e t i = let below = less _ _ (each_so (λ t. nat_lt (number t) bound) (targets_of links line) e t i) in omega (arith, h, below)

  -- along a chain
  falls_along : IsFalling links numbers → (x : ℕ) (xs : List ℕ) (end : ℕ) → Leads (IsLink links) (x ∷ xs) end → number end ≤ number x
  falls_along f x [] end h = f x end h
  falls_along f x (y ∷ xs) end h = let first : number y ≤ number x = f x y h.0 in let rest : number end ≤ number y = falls_along f y xs end h.1 in omega arith

  never_back : IsFalling links numbers → (line : ℕ) → ((t : ℕ) → IsLink links line t → number t < number line) → (others : List ℕ) → Leads (IsLink links) (line ∷ others) line → ⊥
  never_back f line below [] h = let self : number line < number line = below line h in omega arith
  never_back f line below (y ∷ ys) h =
      let down : number y < number line = below y h.0 in
      let back : number line ≤ number y = falls_along f y ys line h.1 in
      omega arith

  pub falls_clear : IsFalling links numbers → (line : ℕ) → list_all (λ t. nat_lt (number t) (number line)) (targets_of links line) ≡ true → IsOnNoRing links line
  falls_clear f line e ring is i =
      let round = turned (IsLink links) ring line is i in
      never_back f line (λ t at. less _ _ (each_so (λ t. nat_lt (number t) (number line)) (targets_of links line) e t at)) round.0 round.1

  -- all lines but those from this one on
  abbrev pub FallsTo : ℕ → Type 0
  FallsTo n = (line target : ℕ) → line < n → IsLink links line target → number target ≤ number line

  pub falls_more : (n bound : ℕ) → FallsTo n → bound ≤ number n + 1 → list_all (λ t. nat_lt (number t) bound) (targets_of links n) ≡ true → FallsTo (n + 1)
  falls_more n bound before h e line target l i = elim (ℕ_discrete line n) [
    | yes is ↦ subst (λ k. number target ≤ number k) (sym is) (never_rises n bound h e target (subst (λ k. IsLink links k target) is i))
    | no other ↦ before line target (omega arith) i
  ]

-- one line more is marked
pub clear_more : (links : Links) (marks : List Bool) (line : ℕ) → AreClear links marks → IsOnNoRing links line → AreClear links (set marks line true)
clear_more links marks line are none = record {
  wide = length-set marks line true ∙ are.wide;
  clear = λ k e. elim (ℕ_discrete k line) [
    | yes is ↦ subst (IsOnNoRing links) (sym is) none
    | no n ↦ are.clear k (sym (get_or-set_other marks line k true false n) ∙ e)
  ];
}
