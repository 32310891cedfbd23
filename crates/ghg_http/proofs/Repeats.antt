-- The reply to a repeat.
use Rattle.std.proofs.Common.{◌≡◌, ◌∙◌, ℕ, true, List, sym, ap}
use Rattle.ghg_office.specs.Office.{Answer, State, repeated, submitted}
use Rattle.ghg_office.specs.Replies.{Answers, is_accepted, needs_memory}
use Rattle.ghg_office.specs.Requests.{MayFail}
use Rattle.ghg_office.specs.declared.reply.Reply.{Reply}
use Rattle.ghg_office.specs.declared.reply.Reply.TheVariants.{Accepted, Repeated, Refused, Table, NoTable, KeeperFault, Memory}
use Rattle.ghg_office.specs.declared.request.Request.TheVariants.{Submit}
use Rattle.ghg_office.proofs.Requests.{memory_needed}
use Rattle.ghg_http.specs.Laws.{RepliesToRepeats}
use Rattle.ghg_http.specs.Statuses.{office_reply}

module _ (s after : State) (id body : List ℕ) (seq : ℕ) (repeat : submitted s id body ≡ repeated s seq) where
  as_due : (answer : Reply) → (answer ≡ (submitted s id body).reply) × (after ≡ (submitted s id body).after)
      → (answer ≡ Repeated seq) × (after ≡ s)
  as_due answer h = (h.0 ∙ ap (λ (a : Answer). a.reply) repeat, h.1 ∙ ap (λ (a : Answer). a.after) repeat)

  answered_so : (answer : Reply) → Answers (submitted s id body) answer s after → MayFail s (Submit id body) answer
      → (answer ≡ Repeated seq) × (after ≡ s)
  answered_so KeeperFault h may =
      let none : is_accepted (Repeated seq) ≡ true = sym (ap (λ (a : Answer). is_accepted a.reply) repeat) ∙ may in absurd cc
  answered_so Memory h may =
      let none : needs_memory (Repeated seq) ≡ true =
      sym (ap (λ (a : Answer). needs_memory a.reply) repeat) ∙ memory_needed s (Submit id body) may in absurd cc
  answered_so (Accepted n cells) h may = as_due _ h
  answered_so (Repeated n) h may = as_due _ h
  answered_so (Refused rule) h may = as_due _ h
  answered_so (Table text) h may = as_due _ h
  answered_so NoTable h may = as_due _ h

pub replies_to_repeats : RepliesToRepeats
replies_to_repeats s after id body seq due repeat h =
    let so = answered_so s after id body seq repeat h.0 h.1 h.2 in
    (h.3 ∙ ap office_reply so.0, so.1)
