-- Edited lines, key by key, and the node at a place.
use Rattle.std.proofs.Common.{◌≡◌, ℕ, zero, suc, ◌+◌, ◌<◌, inl, inr, Bool, true, false, cond, ◌||◌, List, [], ◌∷◌, ◌++◌, length, get_or, take, drop, Option, Some, None, is_eq, refl, sym, ap, ap₂, ◌∙◌, subst, append_assoc, arith}
use Rattle.std.specs.BTreeMap.{is_at}
use Rattle.std.specs.BTreeSet.{BTreeSet, Updates, contains}
use Rattle.std.specs.List.{AllByRecursion, IsDistinct}
use Rattle.std.specs.Ordering.{eq_by_cmp}
use Rattle.std.proofs.lemmas.Cmp.{nat_list_cmp_total, tied_itself}
use Rattle.std.proofs.lemmas.List.{take-append-drop, take_more}
use Rattle.std.proofs.lemmas.List.Folds.{list_any-append}
use Rattle.std.proofs.lemmas.Map.Keys.{IsDistinct-head, IsDistinct-tail}
use Rattle.std.proofs.lemmas.Map.Lookups.{exact_bytes}
use Rattle.ghg_definitions.specs.declared.record.RecordKey.{RecordKey}
use Rattle.ghg_definitions.specs.declared.record.RecordKey.TheVariants as key
use Rattle.ghg_affected.proofs.Bools.{never_so, true_not_false}
use Rattle.ghg_definitions.specs.Data.{Name, first_name, key_cmp, line_name, name_cmp}
use Rattle.ghg_definitions.specs.Listed.{IsListed}
use Rattle.ghg_definitions.proofs.Keys.{equal_by, keys_same, keys_total}
use Rattle.ghg_shifts.specs.Progress.{is_edited}
use Rattle.ghg_shifts.proofs.Leaves.{same_truth}

-- one more is taken
pub next_taken : {A : Type 0} (xs : List A) (i : ℕ) (x : A) → i < length xs → x ≡ get_or xs i x → take (i + 1) xs ≡ take i xs ++ x ∷ []
next_taken xs i x within is = take_more xs i x within ∙ ap (λ k. take i xs ++ k ∷ []) (sym is)

-- what stands at a place is between what stands before it and behind it
pub around : {A : Type 0} (xs : List A) (i : ℕ) (x : A) → i < length xs → x ≡ get_or xs i x → xs ≡ take i xs ++ x ∷ drop (i + 1) xs
around xs i x within is = sym (take-append-drop (i + 1) xs) ∙ ap (λ t. t ++ drop (i + 1) xs) (next_taken xs i x within is) ∙ append_assoc (take i xs) (x ∷ []) (drop (i + 1) xs)

-- ---- edited lines

or_none : (a : Bool) → (a || false) ≡ a
or_none true = refl
or_none false = refl

same_line : (name other : Name) → eq_by_cmp key_cmp (key.Line other) (key.Line name) ≡ is_at (name_cmp name) other
same_line name other = same_truth _ _
    (λ e. ap (is_at (name_cmp name)) (ap first_name (keys_same (key.Line other) (key.Line name) (equal_by _ e))) ∙ ap is_eq (tied_itself nat_list_cmp_total name))
    (λ e. ap (λ k. eq_by_cmp key_cmp (key.Line other) (key.Line k)) (exact_bytes name other (equal_by (name_cmp name other) e)) ∙ ap is_eq (tied_itself keys_total (key.Line other)))

module _ (keys : List RecordKey) where
  one_key : (k : RecordKey) (name : Name) → is_edited (keys ++ k ∷ []) name ≡ (is_edited keys name || eq_by_cmp key_cmp (key.Line name) k)
  one_key k name = list_any-append (eq_by_cmp key_cmp (key.Line name)) keys (k ∷ []) ∙ ap (λ b. is_edited keys name || b) (or_none (eq_by_cmp key_cmp (key.Line name) k))

  -- with the line of a key the set has the edited lines of one key more
  pub line_edited : (old new : BTreeSet Name) (name : Name) → Updates name_cmp old new name true → ((other : Name) → contains name_cmp old other ≡ is_edited keys other)
      → (other : Name) → contains name_cmp new other ≡ is_edited (keys ++ key.Line name ∷ []) other
  line_edited old new name updates are other =
      updates.0 other ∙ ap (λ b. cond (is_at (name_cmp name) other) true b) (are other) ∙ turned (is_at (name_cmp name) other) (is_edited keys other)
      ∙ ap (λ b. is_edited keys other || b) (sym (same_line name other)) ∙ sym (one_key (key.Line name) other)
    where
      turned : (a b : Bool) → cond a true b ≡ (b || a)
      turned true true = refl
      turned true false = refl
      turned false true = refl
      turned false false = refl

  -- it edits that line too
  pub line_edited_too : (name other : Name) → is_edited (keys ++ key.Line name ∷ []) other ≡ (is_edited keys other || is_at (name_cmp name) other)
  line_edited_too name other = one_key (key.Line name) other ∙ ap (λ b. is_edited keys other || b) (same_line name other)

  -- it edits no other line
  pub others_as_before : (name other : Name) → (other ≡ name → ⊥) → is_edited keys other ≡ is_edited (keys ++ key.Line name ∷ []) other
  others_as_before name other apart = sym (one_key (key.Line name) other ∙ ap (λ b. is_edited keys other || b)
      (never_so (eq_by_cmp key_cmp (key.Line other) (key.Line name)) (λ e. apart (ap first_name (keys_same (key.Line other) (key.Line name) (equal_by _ e))))) ∙ or_none (is_edited keys other))

  -- a key of no line edits none
  pub none_edited_by : (k : RecordKey) → line_name k ≡ None → (name : Name) → is_edited keys name ≡ is_edited (keys ++ k ∷ []) name
  none_edited_by k none name = sym (one_key k name ∙ ap (λ b. is_edited keys name || b) (never_so (eq_by_cmp key_cmp (key.Line name) k) (λ e. clash (ap line_name (keys_same (key.Line name) k (equal_by _ e)) ∙ none))) ∙ or_none (is_edited keys name))
    where
      clash : ◌≡◌ {A = Option Name} (Some name) None → ⊥
      clash e = cc

off_all : (k q : RecordKey) (keys : List RecordKey) → AllByRecursion (λ p. eq_by_cmp key_cmp k p ≡ false) keys → IsListed q keys → k ≡ q → ⊥
off_all k q [] all i e = i
off_all k q (p ∷ keys) all i e = elim i [
  | inl same ↦ true_not_false (sym (ap is_eq (tied_itself keys_total k)) ∙ subst (λ x. eq_by_cmp key_cmp k x ≡ false) (sym (e ∙ same)) all.0)
  | inr later ↦ off_all k q keys all.1 later e
]

listed_at : (keys : List RecordKey) (i : ℕ) (d : RecordKey) → i < length keys → IsListed (get_or keys i d) keys
listed_at [] i d within = absurd (omega arith)
listed_at (k ∷ keys) zero d within = inl refl
listed_at (k ∷ keys) (suc i) d within = inr (listed_at keys i d (omega arith))

-- a line is not edited by the keys before its own
pub not_edited_yet : (keys : List RecordKey) → IsDistinct (eq_by_cmp key_cmp) keys → (i : ℕ) (name : Name) (d : RecordKey) → i < length keys → key.Line name ≡ get_or keys i d → is_edited (take i keys) name ≡ false
not_edited_yet [] differ i name d within is = absurd (omega arith)
not_edited_yet (k ∷ keys) differ zero name d within is = refl
not_edited_yet (k ∷ keys) differ (suc i) name d within is =
    ap₂ (λ a b. a || b)
    (never_so (eq_by_cmp key_cmp (key.Line name) k) (λ e. off_all k (get_or keys i d) keys (IsDistinct-head (eq_by_cmp key_cmp) k keys differ) (listed_at keys i d (omega arith)) (sym (keys_same (key.Line name) k (equal_by _ e)) ∙ is)))
    (not_edited_yet keys (IsDistinct-tail (eq_by_cmp key_cmp) k keys differ) i name d (omega arith) is)
