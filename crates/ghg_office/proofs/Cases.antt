-- A submission is accepted, or it leaves the state as it was.
use Rattle.std.proofs.Common.{◌≡◌, ◌≢◌, ◌⊎◌, inl, inr, ℕ, Bool, true, false, nat_lt, List, length, Option, Some, None, Result, Ok, Err, if◌then◌else◌, refl}
use Rattle.std.specs.Str.{bytes_eq}
use Rattle.ghg_definitions.specs.Data.{Data}
use Rattle.ghg_import.specs.Body.{max_body}
use Rattle.ghg_units.specs.declared.rule.Rule.{Rule}
use Rattle.ghg_units.specs.declared.rule.Rule.TheVariants.{BadId, BodyTooLong, IdReused}
use Rattle.ghg_office.specs.Accepted.{Kept, kept_from}
use Rattle.ghg_keeper.specs.Id.{is_id}
use Rattle.ghg_office.specs.declared.reply.Reply.TheVariants.{Accepted, Refused, Repeated}
use Rattle.ghg_office.specs.Office.{Answer, State, decided, entered_by, judged, once, refused, repeated, submitted}

-- it is not accepted, and nothing changes
pub record LeavesState (s : State) (answer : Answer) : Type 0 where
  pub other : (seq cells : ℕ) → answer.reply ≢ Accepted seq cells
  pub after : answer.after ≡ s

-- its id is new, and its rows make these data
pub record IsAccepted (s : State) (id body : List ℕ) (answer : Answer) : Type 0 where
  pub id_form : is_id id ≡ true
  pub new_id : kept_from 1 id s.accepted ≡ None
  pub content : Data
  pub made : entered_by s body ≡ Ok content
  pub answers : answer ≡ decided s id body (Ok content)

pub is_other : (rule : Rule) (seq cells : ℕ) → Refused rule ≢ Accepted seq cells
is_other rule seq cells e = cc

is_repeat : (kept seq cells : ℕ) → Repeated kept ≢ Accepted seq cells
is_repeat kept seq cells e = cc

module _ (s : State) (id body : List ℕ) where
  abbrev pub Either : Answer → Type 0
  Either answer = LeavesState s answer ⊎ IsAccepted s id body answer

  refusal : (rule : Rule) → Either (refused s rule)
  refusal rule = inl (record { other = is_other rule; after = refl })

  decided_cases : is_id id ≡ true → kept_from 1 id s.accepted ≡ None → (r : Result Data Rule) → entered_by s body ≡ r → Either (decided s id body r)
  decided_cases form new (Err rule) e = refusal rule
  decided_cases form new (Ok m) e = inr (record { id_form = form; new_id = new; content = m; made = e; answers = refl })

  judged_cases : is_id id ≡ true → kept_from 1 id s.accepted ≡ None → Either (judged s id body)
  judged_cases form new = by (nat_lt max_body (length body))
    where
      by : (long : Bool) → Either (if long then refused s BodyTooLong else decided s id body (entered_by s body))
      by true = refusal BodyTooLong
      by false = decided_cases form new (entered_by s body) refl

  once_cases : is_id id ≡ true → (kept : Option Kept) → kept_from 1 id s.accepted ≡ kept → Either (once s id body kept)
  once_cases form None e = judged_cases form e
  once_cases form (Some kept) e = by (bytes_eq kept.body body)
    where
      by : (same : Bool) → Either (if same then repeated s kept.seq else refused s (IdReused kept.seq))
      by true = inl (record { other = is_repeat kept.seq; after = refl })
      by false = refusal (IdReused kept.seq)

  pub submitted_cases : Either (submitted s id body)
  unfolding submitted
  submitted_cases = by (is_id id) refl
    where
      by : (form : Bool) → is_id id ≡ form → Either (if form then once s id body (kept_from 1 id s.accepted) else refused s BadId)
      by true e = once_cases e (kept_from 1 id s.accepted) refl
      by false e = refusal BadId
