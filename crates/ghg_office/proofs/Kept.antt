-- What the map of bodies finds under an id is what the list of submissions keeps.
use Rattle.std.proofs.Common.{◌≡◌, ◌+◌, ℕ, Bool, true, false, cond, if◌then◌else◌, List, [], ◌∷◌, ◌++◌, map, length, position, option_map, Option, Some, None, refl, sym, ap, ap₂, ◌∙◌}
use Rattle.std.proofs.lemmas.List.Sums.{sum_by_push}
use Rattle.std.proofs.lemmas.Iterator.Adapters.{position_from-zero}
use Rattle.std.specs.List.{position_from}
use Rattle.std.specs.Map.{keys_of, lookup}
use Rattle.std.specs.Str.{bytes_eq}
use Rattle.ghg_keeper.specs.declared.row.KeptRow.{KeptRow}
use Rattle.ghg_office.specs.Accepted.{Kept, kept_bytes, kept_from, entry_row}

-- a number and a body that were found
abbrev pub both : Option ℕ → Option (List ℕ) → Option Kept
both None body = None
both (Some seq) None = None
both (Some seq) (Some body) = Some (record { seq = seq; body = body })

found_from : (seq : ℕ) (id : List ℕ) (es : List (List ℕ × List ℕ)) → kept_from seq id (map entry_row es) ≡ both (position_from (bytes_eq id) seq (keys_of es)) (lookup (bytes_eq id) es)
unfolding kept_from
found_from seq id [] = refl
found_from seq id (e ∷ es) = by (bytes_eq id e.0) (found_from (seq + 1) id es)
  where
    by : (b : Bool) → kept_from (seq + 1) id (map entry_row es) ≡ both (position_from (bytes_eq id) (seq + 1) (keys_of es)) (lookup (bytes_eq id) es)
        → (if b then Some (record { seq = seq; body = e.1 }) else kept_from (seq + 1) id (map entry_row es))
        ≡ both (cond b (Some seq) (position_from (bytes_eq id) (seq + 1) (keys_of es))) (cond b (Some e.1) (lookup (bytes_eq id) es))
    by true h = refl
    by false h = h

one_later : {K : Type 0} (test : K → Bool) (n : ℕ) (xs : List K) → position_from test (n + 1) xs ≡ option_map (λ i. i + 1) (position_from test n xs)
one_later test n [] = refl
one_later test n (x ∷ xs) = by (test x) (one_later test (n + 1) xs)
  where
    by : (b : Bool) → position_from test (n + 1 + 1) xs ≡ option_map (λ i. i + 1) (position_from test (n + 1) xs)
        → cond b (Some (n + 1)) (position_from test (n + 1 + 1) xs) ≡ option_map (λ i. i + 1) (cond b (Some n) (position_from test (n + 1) xs))
    by true h = refl
    by false h = h

-- places count from 0, and numbers from 1
pub found : (id : List ℕ) (es : List (List ℕ × List ℕ)) → kept_from 1 id (map entry_row es) ≡ both (option_map (λ i. i + 1) (position (bytes_eq id) (keys_of es))) (lookup (bytes_eq id) es)
found id es = found_from 1 id es ∙ ap (λ n. both n (lookup (bytes_eq id) es)) (one_later (bytes_eq id) 0 (keys_of es) ∙ ap (option_map (λ i. i + 1)) (sym (position_from-zero (bytes_eq id) (keys_of es))))

told : {T : Type 0} (place : T → ℕ) (body : T → List ℕ) (r : Option T)
    → option_map (λ t. record { seq = place t + 1; body = body t }) r ≡ both (option_map (λ i. i + 1) (option_map place r)) (option_map body r)
told place body None = refl
told place body (Some t) = refl

-- what was found by place and by key is what the list keeps
pub find_says : {T : Type 0} (place : T → ℕ) (body : T → List ℕ) (id : List ℕ) (es : List (List ℕ × List ℕ)) (r : Option T)
    → option_map place r ≡ position (bytes_eq id) (keys_of es) → option_map body r ≡ lookup (bytes_eq id) es
    → option_map (λ t. record { seq = place t + 1; body = body t }) r ≡ kept_from 1 id (map entry_row es)
find_says place body id es r p b = told place body r ∙ ap₂ (λ i x. both (option_map (λ i. i + 1) i) x) p b ∙ sym (found id es)

-- where the list keeps nothing, the map finds nothing
pub missing : (seq : ℕ) (id : List ℕ) (es : List (List ℕ × List ℕ)) → kept_from seq id (map entry_row es) ≡ None → lookup (bytes_eq id) es ≡ None
unfolding kept_from
missing seq id [] h = refl
missing seq id (e ∷ es) h = by (bytes_eq id e.0) (missing (seq + 1) id es) h
  where
    by : (b : Bool) → (kept_from (seq + 1) id (map entry_row es) ≡ None → lookup (bytes_eq id) es ≡ None)
        → (if b then Some (record { seq = seq; body = e.1 }) else kept_from (seq + 1) id (map entry_row es)) ≡ None → cond b (Some e.1) (lookup (bytes_eq id) es) ≡ None
    by true later h = absurd (cc)
    by false later h = later h

pub kept_bytes-push : (list : List KeptRow) (s : KeptRow) → kept_bytes (list ++ (s ∷ [])) ≡ kept_bytes list + length s.body
kept_bytes-push list s = sum_by_push (λ s. length s.body) list s
