-- Lines in an order are on no ring.
use Rattle.std.proofs.Common.{◌≡◌, ◌⊎◌, ℕ, true, is_some, List, [], ◌∷◌, ◌++◌, refl, sym, subst, inl, inr}
use Rattle.ghg_definitions.specs.Data.{Data, Name, line}
use Rattle.ghg_definitions.specs.Rings.{IsAcyclic, IsRing, Leads, Takes}
use Rattle.ghg_definitions.proofs.Chains.{leading}
use Rattle.ghg_definitions.specs.Listed.{IsListed}
use Rattle.ghg_definitions.proofs.Listed.{contained, listed}
use Rattle.ghg_graph.specs.Links.{IsLink, IsPlaced, Links}
use Rattle.ghg_graph.specs.Ordering.{IsBehind, IsLineOrder}

-- ---- what follows on a ring

module _ {A : Type 0} (R : A → A → Type 0) where
  next_in : (x : A) (xs : List A) (end i : A) → Leads R (x ∷ xs) end → IsListed i (x ∷ xs) → (j : A) × R i j × (IsListed j xs ⊎ (j ≡ end))
  next_in x [] end i r (inl e) = (end, subst (λ y. R y end) (sym e) r, inr refl)
  next_in x [] end i r (inr a) = absurd a
  next_in x (y ∷ ys) end i r (inl e) = (y, subst (λ z. R z y) (sym e) r.0, inl (inl refl))
  next_in x (y ∷ ys) end i r (inr a) = let rest = next_in y ys end i r.1 a in (rest.0, rest.1, elim rest.2 [ inl b ↦ inl (inr b) | inr e ↦ inr e ])

  -- each line of a ring takes one of the ring
  pub next : (ring : List A) → IsRing R ring → (i : A) → IsListed i ring → (j : A) × R i j × IsListed j ring
  next [] r i a = absurd r
  next (x ∷ xs) r i a = let found = next_in x xs x i r a in (found.0, found.1, elim found.2 [ inl b ↦ inr b | inr e ↦ inl e ])

-- ---- a line that is placed is on no ring

module _ (links : Links) (ring : List ℕ) (is : IsRing (IsLink links) ring) where
  pub off_rings : (done : List ℕ) → IsPlaced links done → (line : ℕ) → IsListed line done → IsListed line ring → ⊥
  off_rings [] placed line i on = i
  off_rings (x ∷ done) placed line (inr j) on = off_rings done placed.2 line j on
  off_rings (x ∷ done) placed line (inl e) on = let after = next (IsLink links) ring is line on in off_rings done placed.2 after.0 (placed.1 after.0 (subst (λ l. IsLink links l after.0) e after.1)) after.2

-- ---- an order has no ring

module _ (m : Data) (ring : List Name) (is : IsRing (Takes m) ring) where
  off_ring : (done names : List Name) → IsBehind m done names → ((k : Name) → IsListed k done → IsListed k ring → ⊥) → (k : Name) → IsListed k names → IsListed k ring → ⊥
  off_ring done [] behind clear k i on = i
  off_ring done (name ∷ names) behind clear k i on = elim i [
    | inl e ↦ first (subst (λ n. IsListed n ring) e on)
    | inr j ↦ off_ring (name ∷ done) names behind.3 (λ l a b. elim a [ inl e ↦ first (subst (λ n. IsListed n ring) e b) | inr c ↦ clear l c b ]) k j on
  ]
    where
      first : IsListed name ring → ⊥
      first on = let after = next (Takes m) ring is name on in clear after.0 (listed done after.0 (behind.2 after.0 after.1)) after.2

pub ordered_acyclic : (m : Data) (names : List Name) → IsLineOrder m names → IsAcyclic m
ordered_acyclic m names order [] ring = ring
ordered_acyclic m names order (k ∷ ks) ring =
    let takes = leading (Takes m) (k ∷ ks) k k ring (inl refl) in
    off_ring m (k ∷ ks) ring [] names order.behind (λ l i on. i) k (listed names k (order.complete k takes.1.present)) (inl refl)

-- ---- an order with a line more at its end

pub behind_more : (m : Data) (done names : List Name) (name : Name) → IsBehind m done names → is_some (line m name) ≡ true → (IsListed name done → ⊥) → (IsListed name names → ⊥) → ((k : Name) → Takes m name k → IsListed k done ⊎ IsListed k names) → IsBehind m done (names ++ name ∷ [])
behind_more m done [] name behind here fresh new takes = (here, λ c. fresh (listed done name c), λ k t. contained done k (elim (takes k t) [ inl i ↦ i | inr i ↦ absurd i ]), tt)
behind_more m done (x ∷ names) name behind here fresh new takes = (
  behind.0,
  behind.1,
  behind.2,
  behind_more m (x ∷ done) names name behind.3 here (λ i. elim i [ inl e ↦ new (inl e) | inr j ↦ fresh j ]) (λ i. new (inr i)) (λ k t. elim (takes k t) [
    | inl i ↦ inl (inr i)
    | inr i ↦ elim i [ inl e ↦ inl (inl e) | inr j ↦ inr j ]
  ]),
)
