-- Numbers of lines, found among the names in order.
use Rattle.std.proofs.Common.{◌≡◌, ℕ, ◌+◌, ◌<◌, ◌≤◌, Bool, true, false, not, List, [], ◌∷◌, ◌++◌, flat_map, length, get_or, map, take, Option, Result, Ok, Err, is_eq, sym, ap, ◌∙◌, subst, inl, inr, arith}
use Rattle.std.specs.Prelude.{MatchOption}
use native.Mathlib.Decide.{ℕ_discrete}
use Prim.{yes, no}
use Rattle.std.proofs.lemmas.List.{append-nil, append_assoc, get_or_append_left, get_or_default, get_or_push, map-append, take_more}
use Rattle.std.proofs.lemmas.List.Concat.{flat_map-append}
use Rattle.std.specs.Cmp.{tied_itself}
use Rattle.std.specs.Cmp.Lexicographic.{nat_list_cmp_total}
use Rattle.std.specs.List.Sorted.{IsBinarySearchResult, IsSearchInRange, IsStrictlySortedBy}
use Rattle.std.specs.Ordering.{eq_by_cmp}
use Rattle.std.specs.Result.{result_ok}
use Rattle.ghg_definitions.specs.Data.{Name, name_cmp}
use Rattle.ghg_definitions.proofs.Keys.{names_same}
use Rattle.ghg_definitions.specs.Listed.{IsListed}
use Rattle.ghg_definitions.proofs.Listed.{from_filter, in_either, listed_left, listed_right}
use Rattle.ghg_data.specs.Names.{without_name}
use Rattle.ghg_data.proofs.Placed.{remove_place}
use Rattle.ghg_graph.specs.Links.{AreWithin, Links, targets_of}
use Rattle.ghg_graph.specs.Numbers.{AreNumbers, name_at}
use Rattle.ghg_graph.proofs.Marks.{at_listed, link_inside}

-- a name that is among others is found
not_without : (name : Name) (names : List Name) → IsListed name (without_name name names) → ⊥
not_without name names i = clash (ap not (sym (ap is_eq (tied_itself nat_list_cmp_total name))) ∙ (from_filter (λ x. not (eq_by_cmp name_cmp name x)) name names i).1)
  where
    clash : ◌≡◌ {A = Bool} false true → ⊥
    clash e = cc

-- the number of a name, where a search found it, is its place; and a name that was not found is none of these
pub found_number : (names : List Name) (name : Name) → IsStrictlySortedBy name_cmp names → (r : Result ℕ ℕ) → IsSearchInRange r (length names)
    → IsBinarySearchResult (λ y. name_cmp y name) names r → (o : Option ℕ) → o ≡ result_ok r
    → MatchOption o (IsListed name names → ⊥) (λ number. (number < length names) × (name_at names number ≡ name))
found_number names name sorted r range search o is = subst (λ p. MatchOption p (IsListed name names → ⊥) (λ number. (number < length names) × (name_at names number ≡ name))) (sym is) (by r range search)
  where
    by : (r : Result ℕ ℕ) → IsSearchInRange r (length names) → IsBinarySearchResult (λ y. name_cmp y name) names r
        → MatchOption (result_ok r) (IsListed name names → ⊥) (λ number. (number < length names) × (name_at names number ≡ name))
    by (Ok place) range at = (range, names_same (name_at names place) name (at []))
    by (Err place) range at = λ i. not_without name names (subst (IsListed name) (remove_place names name place sorted at) i)

pub take_next : {A : Type 0} (xs : List A) (k : ℕ) (x : A) → k < length xs → x ≡ get_or xs k x → take (k + 1) xs ≡ take k xs ++ x ∷ []
take_next xs k x h e = take_more xs k x h ∙ ap (λ y. take k xs ++ y ∷ []) (sym e)

-- what a function lists of one element more
pub flat_more : {A B : Type 0} (f : A → List B) (xs : List A) (i : ℕ) (d : A) → i < length xs
    → flat_map f (take (i + 1) xs) ≡ flat_map f (take i xs) ++ f (get_or xs i d)
flat_more f xs i d h = ap (flat_map f) (take_next xs i (get_or xs i d) h (get_or_default xs i d (get_or xs i d) h))
    ∙ flat_map-append f (take i xs) (get_or xs i d ∷ []) ∙ ap (λ ns. flat_map f (take i xs) ++ ns) (append-nil (f (get_or xs i d)))

-- ---- numbers of names

-- a name more, and its number
pub number_added : (lines : List Name) (numbers : List ℕ) (names : List Name) (number : ℕ) (name : Name)
    → number < length lines → name_at lines number ≡ name → (pushed : List ℕ) → pushed ≡ numbers ++ number ∷ []
    → AreNumbers lines numbers names → AreNumbers lines pushed (names ++ name ∷ [])
number_added lines numbers names number name small is pushed e are = record {
  within = λ k i. elim (in_either k numbers (number ∷ []) (subst (IsListed k) e i)) [
    | inl j ↦ are.within k j
    | inr j ↦ elim j [ inl same ↦ subst (λ n. n < length lines) (sym same) small | inr none ↦ absurd none ]
  ];
  named = λ k i. elim (in_either k numbers (number ∷ []) (subst (IsListed k) e i)) [
    | inl j ↦ listed_left (name_at lines k) names (name ∷ []) (are.named k j)
    | inr j ↦ listed_right (name_at lines k) names (name ∷ []) (elim j [ inl same ↦ inl (ap (name_at lines) same ∙ is) | inr none ↦ absurd none ])
  ];
  complete = λ k i l. subst (IsListed k) (sym (ap (map (name_at lines)) e ∙ map-append (name_at lines) numbers (number ∷ []))) (elim (in_either k names (name ∷ []) i) [
    | inl j ↦ listed_left k (map (name_at lines) numbers) (name_at lines number ∷ []) (are.complete k j l)
    | inr j ↦ listed_right k (map (name_at lines) numbers) (name_at lines number ∷ []) (elim j [ inl same ↦ inl (same ∙ sym is) | inr none ↦ absurd none ])
  ]);
}

-- a name more that is no line here
pub none_added : (lines : List Name) (numbers : List ℕ) (names : List Name) (name : Name) → (IsListed name lines → ⊥)
    → AreNumbers lines numbers names → AreNumbers lines numbers (names ++ name ∷ [])
none_added lines numbers names name off are = record {
  within = are.within;
  named = λ k i. listed_left (name_at lines k) names (name ∷ []) (are.named k i);
  complete = λ k i l. elim (in_either k names (name ∷ []) i) [
    | inl j ↦ are.complete k j l
    | inr j ↦ elim j [ inl same ↦ absurd (off (subst (λ x. IsListed x lines) same l)) | inr none ↦ absurd none ]
  ];
}

-- the name of a place more
pub names_added : (lines : List Name) (pushed : List ℕ) (before names : List Name) (k : ℕ) (name : Name)
    → k < length names → name ≡ get_or names k name → AreNumbers lines pushed ((before ++ take k names) ++ name ∷ [])
    → AreNumbers lines pushed (before ++ take (k + 1) names)
names_added lines pushed before names k name h e are =
    subst (AreNumbers lines pushed) (append_assoc before (take k names) (name ∷ []) ∙ ap (λ xs. before ++ xs) (sym (take_next names k name h e))) are

-- a list of targets more
pub links_more : (lines : List Name) (taken_at : ℕ → List Name) (lists pushed : Links) (targets : List ℕ) (n : ℕ) → length lists ≡ n → ((k : ℕ) → k < n → AreNumbers lines (targets_of lists k) (taken_at k)) → AreNumbers lines targets (taken_at n) → pushed ≡ lists ++ targets ∷ [] → (k : ℕ) → k < n + 1 → AreNumbers lines (targets_of pushed k) (taken_at k)
links_more lines taken_at lists pushed targets n count all last e k h = subst (λ ls. AreNumbers lines (targets_of ls k) (taken_at k)) (sym e) (elim (ℕ_discrete k n) [
  | yes is ↦ subst (λ j. AreNumbers lines (targets_of (lists ++ targets ∷ []) j) (taken_at j)) (sym is) (subst (λ ts. AreNumbers lines ts (taken_at n)) (sym (get_or_push lists targets [] n count)) last)
  | no other ↦ subst (λ ts. AreNumbers lines ts (taken_at k)) (sym (get_or_append_left lists (targets ∷ []) [] k (omega arith))) (all k (omega arith))
])

pub all_within : (lines : List Name) (taken_at : ℕ → List Name) (lists : Links) → length lists ≡ length lines → ((k : ℕ) → k < length lists → AreNumbers lines (targets_of lists k) (taken_at k)) → AreWithin lists
all_within lines taken_at lists count all i j link = subst (λ n. j < n) (sym count) ((all i (link_inside lists i j link)).within j link)

pub names_within : (lines : List Name) (numbers : List ℕ) → ((i : ℕ) → IsListed i numbers → i < length lines) → (xs : List Name) (ns : List ℕ) → xs ≡ lines → ns ≡ numbers → (k : ℕ) → k < length ns → get_or ns k 0 < length xs
names_within lines numbers within xs ns e f k h = subst (λ ys. get_or ns k 0 < length ys) (sym e) (within (get_or ns k 0) (subst (IsListed (get_or ns k 0)) f (at_listed ns k h)))

pub same_number : (m n : ℕ) → m ≤ n → n ≤ m → m ≡ n
same_number m n a b = omega arith
