-- What data keep once rows are entered.
use Rattle.std.proofs.Common.{◌≡◌, ◌≤◌, ◌+◌, ℕ, Bool, true, false, nat_lt, List, [], ◌∷◌, ◌++◌, length, Option, Some, None, option_map, Result, Ok, Err, if◌then◌else◌, refl, sym, ap, ap₂, ◌∙◌}
use Rattle.std.proofs.lemmas.Bool.{ltb-false}
use Rattle.ghg_affected.specs.Affected.{affected_nodes}
use Rattle.ghg_definitions.specs.Compilation.{overflow}
use Rattle.ghg_definitions.specs.Data.{Data}
use Rattle.ghg_definitions.specs.Rings.{ring_line}
use Rattle.ghg_definitions.specs.Rules.{accepted, after_rows, arranged, binding_fault, judged, limit_fault, most_kept_bytes, or_broken, passed_limit, planned, rows_applied, unsound_place, without_ring}
use Rattle.ghg_data.specs.Changes.{Change, applied}
use Rattle.ghg_data.specs.declared.refusal.PlanRefusal.{PlanRefusal}
use Rattle.ghg_data.specs.declared.refusal.PlanRefusal.TheVariants as refusal
use Rattle.ghg_data.specs.Refusal.{IfRule}
use Rattle.ghg_import.specs.Reading.{Reading}
use Rattle.ghg_units.specs.declared.rule.Limit.{Limit}
use Rattle.ghg_units.specs.declared.node.Node.{Node}
use Rattle.ghg_units.specs.declared.rule.Limit.TheVariants.{Bytes}
use Rattle.ghg_units.specs.declared.rule.Rule.{Rule}
use Rattle.ghg_units.specs.declared.rule.Rule.TheVariants.{Overflow, TooMany}
use Rattle.ghg_office.specs.declared.reply.Reply.{Reply}
use Rattle.ghg_office.specs.declared.reply.Reply.TheVariants.{Accepted, KeeperFault, Memory, NoTable, Refused, Repeated, Table}
use Rattle.ghg_keeper.specs.declared.row.KeptRow.{KeptRow}
use Rattle.ghg_office.specs.Office.{Answer, IsRead, State, decided, entered, entered_by, submitted}
use Rattle.ghg_office.specs.Replies.{Answers, is_accepted, is_failure, plan_reply}
use Rattle.ghg_office.proofs.Reading.{read_decided}

-- data, where no node of them is beyond the limits
abbrev pub within_limits : Data → Option Node → Result Data Rule
within_limits m node = or_broken (option_map Overflow node) (Ok m)

abbrev pub compiled : Result Data Rule → Result Data Rule
compiled r = after_rows (λ m. within_limits m (overflow m)) r

-- no line is beyond the limits
pub entered-overflow : (m n : Data) (reading : Reading) (bytes : ℕ) → entered m reading bytes ≡ Ok n → overflow n ≡ None
unfolding entered accepted
entered-overflow m n reading bytes e = by (arranged m reading.rows reading.rest bytes) e
  where
    within : (k : Data) (node : Option Node) → overflow k ≡ node → within_limits k node ≡ Ok n → overflow n ≡ None
    within k None is e = let same : k ≡ n = cc in ap overflow (sym same) ∙ is
    within k (Some node) is e = absurd (cc)

    by : (r : Result Data Rule) → compiled r ≡ Ok n → overflow n ≡ None
    by (Ok k) e = within k (overflow k) refl e
    by (Err rule) e = absurd (cc)

-- what is left of what was planned, once rings and overflows are looked for
abbrev left : Result Data Rule → Result Data Rule
left planned = compiled (after_rows (λ n. without_ring n (ring_line n)) planned)

-- the kept bodies are not beyond theirs
pub entered-bytes : (m n : Data) (reading : Reading) (bytes : ℕ) → entered m reading bytes ≡ Ok n → bytes ≤ most_kept_bytes
unfolding entered accepted arranged planned
entered-bytes m n reading bytes e = by (rows_applied m reading.rows) reading.rest e
  where
    small : (b : Bool) → nat_lt most_kept_bytes bytes ≡ b → (if b then Some (TooMany Bytes) else None) ≡ None → bytes ≤ most_kept_bytes
    small true is e = absurd (cc)
    small false is e = ltb-false most_kept_bytes bytes is

    few : (limit : Option Limit) (k : Data) → (fault : Option Rule) → limit_fault limit bytes ≡ fault → left (or_broken fault (Ok k)) ≡ Ok n → bytes ≤ most_kept_bytes
    few limit k (Some rule) is e = absurd (cc)
    few (Some limit) k None is e = absurd (cc)
    few None k None is e = small (nat_lt most_kept_bytes bytes) refl is

    bound : (fault : Option Rule) (k : Data) → left (or_broken fault (or_broken (limit_fault (passed_limit k) bytes) (Ok k))) ≡ Ok n → bytes ≤ most_kept_bytes
    bound None k e = few (passed_limit k) k (limit_fault (passed_limit k) bytes) refl e
    bound (Some rule) k e = absurd (cc)

    by : (r : Result Data Rule) (rest : Option Rule) → left (after_rows (judged rest bytes) r) ≡ Ok n → bytes ≤ most_kept_bytes
    by (Err rule) rest e = absurd (cc)
    by (Ok k) (Some rule) e = absurd (cc)
    by (Ok k) None e = bound (binding_fault (unsound_place k)) k e

-- what is answered where nothing is broken, and the state after it
accepted_decided : (s : State) (id body : List ℕ) (r : Result Data Rule) (m n : Data) (seq cells : ℕ) (list : List KeptRow)
    → r ≡ Ok m → n ≡ m → seq ≡ length s.accepted + 1 → cells ≡ length (affected_nodes s.content m) → list ≡ s.accepted ++ (record { id = id; body = body } ∷ [])
    → (Accepted seq cells ≡ (decided s id body r).reply) × (◌≡◌ {A = State} (record { content = n; accepted = list }) (decided s id body r).after)
accepted_decided s id body (Err rule) m n seq cells list e f g count h = absurd (cc)
accepted_decided s id body (Ok k) m n seq cells list e f g count h =
    let same : k ≡ m = cc in
    (ap₂ Accepted g (count ∙ ap (λ c. length (affected_nodes s.content c)) (sym same)), ap₂ (λ (c : Data) (l : List KeptRow). record { content = c; accepted = l }) (f ∙ sym same) h)

pub accepted_answers : (s : State) (id body : List ℕ) (m n : Data) (seq cells : ℕ) (list : List KeptRow) → IsRead s id body → entered_by s body ≡ Ok m
    → n ≡ m → seq ≡ length s.accepted + 1 → cells ≡ length (affected_nodes s.content m) → list ≡ s.accepted ++ (record { id = id; body = body } ∷ [])
    → Answers (submitted s id body) (Accepted seq cells) s (record { content = n; accepted = list })
accepted_answers s id body m n seq cells list read e f g count h =
    rw (read_decided s id body read) (accepted_decided s id body (entered_by s body) m n seq cells list e f g count h)

-- as many nodes are affected, where the data stayed and are those of the state
pub counted : (old new content : Data) (edits : List Change) (cells : ℕ) → new ≡ old → old ≡ content
    → cells ≡ length (affected_nodes new (applied new edits)) → cells ≡ length (affected_nodes content (applied old edits))
counted old new content edits cells kept same h = h ∙ ap₂ (λ m n. length (affected_nodes m (applied n edits))) (kept ∙ same) kept

refused_answers : (s t : State) (id body : List ℕ) (rule : Rule) → IsRead s id body → entered_by s body ≡ Err rule → t ≡ s → Answers (submitted s id body) (Refused rule) s t
refused_answers s t id body rule read e same = rw (read_decided s id body read, e) (refl, same)

-- what is answered where the rows are not planned; the state is the one that was opened
pub planned_answers : (opened s t : State) (id body : List ℕ) (why : PlanRefusal) → opened ≡ s → IsRead s id body
    → IfRule (λ rule. entered_by opened body ≡ Err rule) why → t ≡ opened → Answers (submitted s id body) (plan_reply why) s t
planned_answers opened s t id body (refusal.Rule rule) same read e kept =
    refused_answers s t id body rule read (ap (λ u. entered_by u body) (sym same) ∙ e) (kept ∙ same)
planned_answers opened s t id body refusal.Memory same read e kept = kept ∙ same

-- where the keeper failed or memory ran out, nothing changed
pub failed_answers : (answer : Answer) (reply : Reply) (s t : State) → is_failure reply ≡ true → t ≡ s → Answers answer reply s t
failed_answers answer KeeperFault s t e same = same
failed_answers answer Memory s t e same = same
failed_answers answer (Accepted seq cells) s t e same = absurd (cc)
failed_answers answer (Repeated seq) s t e same = absurd (cc)
failed_answers answer (Refused rule) s t e same = absurd (cc)
failed_answers answer (Table text) s t e same = absurd (cc)
failed_answers answer NoTable s t e same = absurd (cc)

-- a submission that breaks no rule is accepted
pub accepted_reply : (s : State) (id body : List ℕ) (m : Data) → IsRead s id body → entered_by s body ≡ Ok m → is_accepted (submitted s id body).reply ≡ true
accepted_reply s id body m read e = rw (read_decided s id body read, e) refl
