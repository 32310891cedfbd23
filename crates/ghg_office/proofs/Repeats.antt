-- What was accepted stays in the list, and is found there when it is submitted again.
use Rattle.std.proofs.Common.{◌≡◌, ◌+◌, ◌++◌, ◌∙◌, ℕ, Bool, true, false, if◌then◌else◌, List, [], ◌∷◌, length, Some, None, inl, inr, refl, sym, ap, subst, arith}
use Rattle.std.specs.Cmp.Lexicographic.{bytes_decides}
use Rattle.std.specs.Str.{bytes_eq}
use Rattle.ghg_keeper.specs.declared.row.KeptRow.{KeptRow}
use Rattle.ghg_office.specs.Accepted.{Kept, kept_from}
use Rattle.ghg_keeper.specs.Id.{is_id}
use Rattle.ghg_office.specs.declared.reply.Reply.TheVariants.{Accepted}
use Rattle.ghg_office.specs.Laws.{RepeatsActOnce, state_after_all}
use Rattle.ghg_office.specs.Office.{State, repeated, submitted}
use Rattle.ghg_office.proofs.Cases.{IsAccepted, submitted_cases}
use Rattle.ghg_office.proofs.InForce.{reached}

-- the same bytes are equal
bytes_same : (bytes : List ℕ) → bytes_eq bytes bytes ≡ true
bytes_same bytes = (bytes_decides bytes bytes).1 refl

-- what is found in a list is found in a longer one
kept-longer : (seq : ℕ) (id : List ℕ) (list more : List KeptRow) (kept : Kept) → kept_from seq id list ≡ Some kept → kept_from seq id (list ++ more) ≡ Some kept
unfolding kept_from
kept-longer seq id [] more kept e = absurd (cc)
kept-longer seq id (s ∷ list) more kept e = by (bytes_eq id s.id) (kept-longer (seq + 1) id list more kept) e
  where
    by : (same : Bool) → (kept_from (seq + 1) id list ≡ Some kept → kept_from (seq + 1) id (list ++ more) ≡ Some kept)
        → (if same then Some (record { seq = seq; body = s.body }) else kept_from (seq + 1) id list) ≡ Some kept
        → (if same then Some (record { seq = seq; body = s.body }) else kept_from (seq + 1) id (list ++ more)) ≡ Some kept
    by true later e = e
    by false later e = later e

-- a new id at the end of the list is found there
kept-last : (seq : ℕ) (id body : List ℕ) (list : List KeptRow) → kept_from seq id list ≡ None
    → kept_from seq id (list ++ (record { id = id; body = body } ∷ [])) ≡ Some (record { seq = seq + length list; body = body })
unfolding kept_from
kept-last seq id body [] e =
    let first : seq ≡ seq + 0 = omega arith in
    rw (bytes_same id) (ap (λ n. Some (record { seq = n; body = body })) first)
kept-last seq id body (s ∷ list) e = by (bytes_eq id s.id) (kept-last (seq + 1) id body list) e
  where
    by : (same : Bool) → (kept_from (seq + 1) id list ≡ None → kept_from (seq + 1) id (list ++ (record { id = id; body = body } ∷ [])) ≡ Some (record { seq = seq + 1 + length list; body = body }))
        → (if same then Some (record { seq = seq; body = s.body }) else kept_from (seq + 1) id list) ≡ None
        → (if same then Some (record { seq = seq; body = s.body }) else kept_from (seq + 1) id (list ++ (record { id = id; body = body } ∷ []))) ≡ Some (record { seq = seq + length (s ∷ list); body = body })
    by true later e = absurd (cc)
    by false later e =
        let place : seq + 1 + length list ≡ seq + length (s ∷ list) = omega arith in
        later e ∙ ap (λ n. Some (record { seq = n; body = body })) place

-- a submission is kept under its number
abbrev IsKept : List ℕ → Kept → State → Type 0
IsKept id kept s = kept_from 1 id s.accepted ≡ Some kept

-- and stays so, whatever is submitted
kept_stays : (id : List ℕ) (kept : Kept) (s : State) (other body : List ℕ) → IsKept id kept s → IsKept id kept (submitted s other body).after
kept_stays id kept s other body h = elim (submitted_cases s other body) [
  | inl left ↦ subst (IsKept id kept) (sym left.after) h
  | inr new ↦ subst (λ answer. IsKept id kept answer.after) (sym new.answers) (kept-longer 1 id s.accepted (record { id = other; body = body } ∷ []) kept h)
]

-- one that is kept is repeated
kept_repeated : (s : State) (id body : List ℕ) (seq : ℕ) → is_id id ≡ true → IsKept id (record { seq = seq; body = body }) s → submitted s id body ≡ repeated s seq
unfolding submitted
kept_repeated s id body seq form kept = rw (form, kept, bytes_same body) refl

-- one that was accepted is kept
accepted_kept : (s : State) (id body : List ℕ) (seq cells : ℕ) → IsAccepted s id body (submitted s id body) → (submitted s id body).reply ≡ Accepted seq cells
    → IsKept id (record { seq = seq; body = body }) (submitted s id body).after
accepted_kept s id body seq cells new e =
    let number : length s.accepted + 1 ≡ seq = same_number _ _ _ _ (sym (ap (λ answer. answer.reply) new.answers) ∙ e) in
    let place : 1 + length s.accepted ≡ seq = omega arith in
    subst (λ answer. IsKept id (record { seq = seq; body = body }) answer.after) (sym new.answers)
    (kept-last 1 id body s.accepted new.new_id ∙ ap (λ n. Some (record { seq = n; body = body })) place)
  where
    same_number : (n k m l : ℕ) → Accepted n m ≡ Accepted k l → n ≡ k
    same_number n k m l e = cc

pub repeats_act_once : RepeatsActOnce
repeats_act_once s id body seq cells others e = elim (submitted_cases s id body) [
  | inl left ↦ absurd (left.other seq cells e)
  | inr new ↦
      let kept = accepted_kept s id body seq cells new e in
      let later = state_after_all (submitted s id body).after others in
      kept_repeated later id body seq new.id_form (reached (IsKept id (record { seq = seq; body = body })) (kept_stays id (record { seq = seq; body = body })) (submitted s id body).after others kept)
]
