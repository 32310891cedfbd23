-- A path that comes back to one of its lines has a ring.
use Rattle.std.proofs.Common.{◌≡◌, ◌⊎◌, ℕ, suc, ◌<◌, Bool, true, false, List, [], ◌∷◌, ◌++◌, length, reverse, take, drop, position, cond, not, nat_lt, ◌+◌, ◌-◌, ◌==◌, Result, Ok, Err, IfOk, refl, sym, ap, ◌∙◌, subst, inl, inr, Some, None, take-append-drop, arith}
use Rattle.std.proofs.lemmas.List.{append_assoc, drop_more, reverse-append, reverse-reverse, take_rest}
use Rattle.std.proofs.lemmas.List.Quantifiers.{position-Some}
use Rattle.std.specs.List.{position_or_len}
use Rattle.std.specs.Option.{IsSome}
use Rattle.ghg_definitions.specs.Rings.{IsRing, Leads}
use Rattle.ghg_definitions.specs.Listed.{IsListed}
use Rattle.ghg_graph.specs.Links.{BeginsWith, IsLink, Links}
use Rattle.ghg_graph.specs.Walks.{IsPartFrom, IsPath}

-- the lines of a path in their order, where the last leads on
onward : (links : Links) (x : ℕ) (xs rest : List ℕ) (end : ℕ) → IsPath links (x ∷ xs) → Leads (IsLink links) (x ∷ rest) end → Leads (IsLink links) (reverse xs ++ x ∷ rest) end
onward links x [] rest end path h = h
onward links x (y ∷ xs) rest end path h =
    let turn : reverse (y ∷ xs) ++ x ∷ rest ≡ reverse xs ++ y ∷ x ∷ rest = ap (λ zs. zs ++ x ∷ rest) (reverse-append (y ∷ []) xs) ∙ append_assoc (reverse xs) (y ∷ []) (x ∷ rest) in
    subst (λ zs. Leads (IsLink links) zs end) (sym turn) (onward links y xs (x ∷ rest) end path.2 (path.1, h))

-- what is led by its last element is led from each of its elements on
leads_part : (links : Links) (front : List ℕ) (x : ℕ) (xs : List ℕ) (end : ℕ) → Leads (IsLink links) (front ++ x ∷ xs) end → Leads (IsLink links) (x ∷ xs) end
leads_part links [] x xs end h = h
leads_part links (y ∷ []) x xs end h = h.1
leads_part links (y ∷ z ∷ front) x xs end h = leads_part links (z ∷ front) x xs end h.1

ring_of_part : (links : Links) (target : ℕ) (front part : List ℕ) → BeginsWith target part → Leads (IsLink links) (front ++ part) target → IsRing (IsLink links) part
ring_of_part links target front [] begins h = absurd begins
ring_of_part links target front (x ∷ xs) begins h = leads_part links front x xs x (subst (Leads (IsLink links) (front ++ x ∷ xs)) (sym begins) h)

-- the last line of the path takes one of the path's
pub path_ring : (links : Links) (path lines : List ℕ) (line target : ℕ) → IsPath links (line ∷ reverse path) → IsLink links line target → lines ≡ path ++ line ∷ [] → (part : List ℕ) → IsPartFrom target lines part → IsRing (IsLink links) part
path_ring links path lines line target is link e part from =
    let whole : reverse (reverse path) ++ line ∷ [] ≡ from.front ++ part = ap (λ zs. zs ++ line ∷ []) (reverse-reverse path) ∙ sym e ∙ from.whole in
    ring_of_part links target from.front part from.begins (subst (λ zs. Leads (IsLink links) zs target) whole (onward links line (reverse path) [] target is link))

-- ---- the part from a line on

same_by : (a b : ℕ) → a == b ≡ true → a ≡ b
same_by a b e = grind (arith, e)

pub part_from : (lines : List ℕ) (line place : ℕ) → position (λ other. other == line) lines ≡ Some place → (part : List ℕ) → part ≡ drop place lines → IsPartFrom line lines part
part_from lines line place e part is =
    let found = position-Some (λ other. other == line) lines place 0 e in
    record {
      front = take place lines;
      whole = sym (take-append-drop place lines) ∙ ap (λ zs. take place lines ++ zs) (sym is);
      begins = subst (BeginsWith line) (sym (is ∙ drop_more lines place 0 found.0)) (same_by _ _ found.1);
    }

pub part_result : {V E : Type 0} (items : V → List ℕ) (lines : List ℕ) (line place : ℕ) → position (λ other. other == line) lines ≡ Some place → (r : Result V E) → IfOk r (λ v. items v ≡ take (length lines - place) (drop place lines)) → IfOk r (λ v. IsPartFrom line lines (items v))
part_result items lines line place e (Ok v) is = part_from lines line place e (items v) (is ∙ take_rest lines place)
part_result items lines line place e (Err f) is = tt

not_itself : (line : ℕ) → line == line ≡ false → ⊥
not_itself line e = grind (arith, e)

below_so : (a b : ℕ) → a < b → nat_lt a b ≡ true
below_so a b h = grind arith

first_step : (x line n m : ℕ) → (b : Bool) → (x == line) ≡ b → ((line ≡ x) ⊎ (n < m)) → cond (not b) (1 + n) 0 < suc m
first_step x line n m true e h = omega arith
first_step x line n m false e (inl is) = absurd (not_itself line (ap (λ y. y == line) is ∙ e))
first_step x line n m false e (inr h) = omega arith

first_below : (xs : List ℕ) (line : ℕ) → IsListed line xs → position_or_len (λ other. other == line) xs < length xs
first_below [] line i = absurd i
first_below (x ∷ xs) line (inl is) = first_step x line (position_or_len (λ other. other == line) xs) (length xs) (x == line) refl (inl is)
first_below (x ∷ xs) line (inr i) = first_step x line (position_or_len (λ other. other == line) xs) (length xs) (x == line) refl (inr (first_below xs line i))

some_so : (b : Bool) (n : ℕ) → b ≡ true → IsSome (cond b (Some n) None)
some_so true n e = refl
some_so false n e = absurd (cc)

-- a line that is among others has a place there
pub place_is : (lines : List ℕ) (line : ℕ) → IsListed line lines → IsSome (position (λ other. other == line) lines)
place_is lines line i = some_so _ _ (below_so _ _ (first_below lines line i))
