-- What is answered to a request, be it a submission or for a table.
use Rattle.std.proofs.Common.{◌≡◌, ◌≢◌, ◌∙◌, inl, inr, ℕ, Bool, true, false, List, Option, Some, None, Result, Ok, Err, if◌then◌else◌, refl, sym, ap, subst}
use Rattle.ghg_definitions.specs.Compilation.{is_year_of}
use Rattle.ghg_definitions.specs.Data.{Data, span}
use Rattle.ghg_office.specs.Keeping.{is_to_append}
use Rattle.ghg_office.specs.Office.{Answer, IsRead, State, asked, decided, entered_by, requested, submitted, unchanged}
use Rattle.ghg_office.specs.Replies.{Answers, Shows, is_accepted, is_failure, needs_memory}
use Rattle.ghg_office.specs.Requests.{MayFail, answer_to}
use Rattle.ghg_office.specs.declared.reply.Reply.{Reply}
use Rattle.ghg_office.specs.declared.reply.Reply.TheVariants.{Accepted, KeeperFault, Memory, NoTable, Refused, Repeated, Table}
use Rattle.ghg_office.specs.declared.request.Request.{Request}
use Rattle.ghg_office.specs.declared.request.Request.TheVariants.{Submit, Show}
use Rattle.ghg_office.proofs.Cases.{submitted_cases}
use Rattle.ghg_office.proofs.Reading.{read_decided}
use Rattle.ghg_tables.specs.declared.table.Table.{Table as NamedTable}
use Rattle.ghg_tables.specs.Names.{table_in}
use Rattle.ghg_units.specs.declared.rule.Rule.{Rule}

-- ---- a table

module _ (s : State) (name : List ℕ) (year : ℕ) where
  -- of each table and of none
  of_asked : (P : Reply → Type 0) → P NoTable → ((text : List ℕ) → P (Table text)) → P (requested s name year)
  unfolding requested
  of_asked P none some = by (table_in name)
    where
      within : (is : Bool) (text : List ℕ) → P (if is then Table text else NoTable)
      within true text = some text
      within false text = none

      by : (found : Option NamedTable) → P (asked s year found)
      by None = none
      by (Some table) = within (is_year_of (span s.content) year) _

  requested_needs : requested s name year ≢ NoTable → needs_memory (requested s name year) ≡ true
  requested_needs = of_asked (λ reply. reply ≢ NoTable → needs_memory reply ≡ true) (λ there. absurd (there refl)) (λ text there. refl)

  pub shows_no_fault : (reply : Reply) → Shows (requested s name year) reply → reply ≢ KeeperFault
  shows_no_fault reply h e = of_asked (λ due. due ≢ KeeperFault) (λ e. cc) (λ text e. cc) (sym (subst (Shows (requested s name year)) e h))

  pub shows_may_fail : (reply : Reply) → Shows (requested s name year) reply → (reply ≡ Memory → requested s name year ≢ NoTable)
      → MayFail s (Show name year) reply
  shows_may_fail KeeperFault h there = absurd (shows_no_fault KeeperFault h refl)
  shows_may_fail Memory h there = there refl
  shows_may_fail (Accepted seq cells) h there = tt
  shows_may_fail (Repeated seq) h there = tt
  shows_may_fail (Refused rule) h there = tt
  shows_may_fail (Table text) h there = tt
  shows_may_fail NoTable h there = tt

pub shows_answers : (s : State) (due reply : Reply) → Shows due reply → Answers (unchanged s due) reply s s
shows_answers s due KeeperFault h = refl
shows_answers s due Memory h = refl
shows_answers s due (Accepted seq cells) h = (h, refl)
shows_answers s due (Repeated seq) h = (h, refl)
shows_answers s due (Refused rule) h = (h, refl)
shows_answers s due (Table text) h = (h, refl)
shows_answers s due NoTable h = (h, refl)

-- ---- a submission

pub to_append : (stored : Bool) (answer : Answer) → is_to_append stored answer ≡ true
    → (stored ≡ true) × (is_accepted answer.reply ≡ true)
to_append true answer e = (refl, e)
to_append false answer e = absurd cc

pub submit_may_fail : (stored : Bool) (s : State) (id body : List ℕ) (reply : Reply) → (reply ≡ Memory → IsRead s id body)
    → (reply ≡ KeeperFault → is_to_append stored (submitted s id body) ≡ true) → MayFail s (Submit id body) reply
submit_may_fail stored s id body KeeperFault read kept = (to_append stored (submitted s id body) (kept refl)).1
submit_may_fail stored s id body Memory read kept = read refl
submit_may_fail stored s id body (Accepted seq cells) read kept = tt
submit_may_fail stored s id body (Repeated seq) read kept = tt
submit_may_fail stored s id body (Refused rule) read kept = tt
submit_may_fail stored s id body (Table text) read kept = tt
submit_may_fail stored s id body NoTable read kept = tt

read_needs : (s : State) (id body : List ℕ) → IsRead s id body → needs_memory (submitted s id body).reply ≡ true
read_needs s id body read = rw (read_decided s id body read) (by (entered_by s body))
  where
    by : (made : Result Data Rule) → needs_memory (decided s id body made).reply ≡ true
    by (Err rule) = refl
    by (Ok m) = refl

-- ---- any request

-- where memory may run out, the answer needs it
pub memory_needed : (s : State) (request : Request (List ℕ)) → MayFail s request Memory
    → needs_memory (answer_to s request).reply ≡ true
memory_needed s (Submit id body) read = read_needs s id body read
memory_needed s (Show name year) there = requested_needs s name year there

-- what is not accepted changes nothing
pub stays : (s : State) (request : Request (List ℕ)) → is_accepted (answer_to s request).reply ≡ false
    → (answer_to s request).after ≡ s
stays s (Submit id body) e = elim (submitted_cases s id body) [
  | inl left ↦ left.after
  | inr new ↦ absurd (cc (e, ap (λ (a : Answer). a.reply) new.answers))
]
stays s (Show name year) e = refl
