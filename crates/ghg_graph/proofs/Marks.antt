-- Marks of lines, and elements by their places.
use Rattle.std.proofs.Common.{◌≡◌, ℕ, zero, suc, ◌+◌, ◌<◌, Bool, true, false, List, [], ◌∷◌, ◌++◌, length, get_or, set, reverse, get_or-set_same, get_or-set_other, refl, sym, ◌∙◌, subst, inl, inr, arith}
use Rattle.std.proofs.lemmas.List.{get_or_default, reverse-append, reverse-reverse}
use native.Mathlib.Decide.{ℕ_discrete}
use Prim.{yes, no}
use Rattle.ghg_definitions.specs.Listed.{IsListed}
use Rattle.ghg_definitions.proofs.Listed.{contained, in_either}
use Rattle.ghg_graph.specs.Links.{IsLink, Links}
use Rattle.ghg_graph.specs.Walks.{IsMarked, IsUnmarked, Keeps, unmarked}

pub clash : ◌≡◌ {A = Bool} true false → ⊥
clash e = cc

pub both_marks : {b : Bool} → b ≡ true → b ≡ false → ⊥
both_marks e f = clash (sym e ∙ f)

-- a line that is marked has a place
pub marked_within : (marks : List Bool) (line : ℕ) → IsMarked marks line → line < length marks
marked_within [] line e = absurd (clash (sym e))
marked_within (b ∷ marks) zero e = omega arith
marked_within (b ∷ marks) (suc line) e = let h = marked_within marks line e in omega arith

pub set_marked : (marks : List Bool) (line : ℕ) → line < length marks → IsMarked (set marks line true) line
set_marked marks line h = get_or-set_same marks line true false h

pub set_keeps : (marks : List Bool) (line : ℕ) → line < length marks → Keeps marks (set marks line true)
set_keeps marks line h k e = elim (ℕ_discrete k line) [
  | yes is ↦ subst (λ j. IsMarked (set marks line true) j) (sym is) (set_marked marks line h)
  | no n ↦ get_or-set_other marks line k true false n ∙ e
]

pub unmarked_set : (marks : List Bool) (t : ℕ) → t < length marks → IsUnmarked marks t → unmarked (set marks t true) + 1 ≡ unmarked marks
unmarked_set [] t h e = absurd (omega arith)
unmarked_set (true ∷ marks) zero h e = absurd (clash e)
unmarked_set (false ∷ marks) zero h e = omega arith
unmarked_set (true ∷ marks) (suc t) h e = unmarked_set marks t (omega arith) e
unmarked_set (false ∷ marks) (suc t) h e = let rest : unmarked (set marks t true) + 1 ≡ unmarked marks = unmarked_set marks t (omega arith) e in omega arith

-- ---- what the code reads

pub read_false : (marks : List Bool) (t : ℕ) (b : Bool) → b ≡ get_or marks t b → b ≡ false → IsUnmarked marks t
read_false marks t b e f = sym (subst (λ x. x ≡ get_or marks t x) f e)

pub read_true : (marks : List Bool) (t : ℕ) (b : Bool) → t < length marks → b ≡ get_or marks t b → b ≡ true → IsMarked marks t
read_true marks t b h e f = get_or_default marks t false true h ∙ sym (subst (λ x. x ≡ get_or marks t x) f e)

pub read_number : (xs : List ℕ) (k n : ℕ) → k < length xs → n ≡ get_or xs k n → n ≡ get_or xs k 0
read_number xs k n h e = e ∙ get_or_default xs k n 0 h

-- ---- elements

pub at_listed : (xs : List ℕ) (k : ℕ) → k < length xs → IsListed (get_or xs k 0) xs
at_listed [] k h = absurd (omega arith)
at_listed (x ∷ xs) zero h = inl refl
at_listed (x ∷ xs) (suc k) h = inr (at_listed xs k (omega arith))

pub place_of : (xs : List ℕ) (x : ℕ) → IsListed x xs → (k : ℕ) × (k < length xs) × (get_or xs k 0 ≡ x)
place_of xs x i = let c = contained xs x i in (c.0, c.1, get_or_default xs c.0 0 x c.1 ∙ c.2)

pub reverse_push : {A : Type 0} (xs : List A) (x : A) → reverse (xs ++ x ∷ []) ≡ x ∷ reverse xs
reverse_push xs x = reverse-append xs (x ∷ [])

pub from_reverse : {A : Type 0} (x : A) (xs : List A) → IsListed x (reverse xs) → IsListed x xs
from_reverse x [] i = i
from_reverse x (y ∷ xs) i = elim (in_either x (reverse xs) (y ∷ []) (subst (IsListed x) (reverse-append (y ∷ []) xs) i)) [
  | inl j ↦ inr (from_reverse x xs j)
  | inr j ↦ elim j [ inl e ↦ inl e | inr none ↦ absurd none ]
]

pub listed_reverse : {A : Type 0} (x : A) (xs : List A) → IsListed x xs → IsListed x (reverse xs)
listed_reverse x xs i = from_reverse x (reverse xs) (subst (IsListed x) (sym (reverse-reverse xs)) i)

-- a line that takes something has a list
pub link_inside : (ls : Links) (i j : ℕ) → IsLink ls i j → i < length ls
link_inside [] i j a = absurd a
link_inside (ts ∷ ls) zero j a = omega arith
link_inside (ts ∷ ls) (suc i) j a = let h = link_inside ls i j a in omega arith
