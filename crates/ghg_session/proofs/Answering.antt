-- What a request of a script comes to at the office.
use Rattle.std.proofs.Common.{◌≡◌, ◌∙◌, Bool, true, false, inl, inr, refl, sym, ap, Ok, Err, Result, IfErr, OnErr}
use Rattle.ghg_office.specs.Keeping.{is_to_append}
use Rattle.ghg_office.specs.Office.{State}
use Rattle.ghg_office.specs.Replies.{Answers, is_accepted, needs_memory}
use Rattle.ghg_office.specs.Requests.{MayFail, answer_to}
use Rattle.ghg_office.specs.declared.reply.Reply.{Reply}
use Rattle.ghg_office.specs.declared.reply.Reply.TheVariants.{Accepted, Repeated, Refused, Table, NoTable, KeeperFault, Memory}
use Rattle.ghg_office.proofs.Calls.{is_appended}
use Rattle.ghg_office.proofs.Requests.{memory_needed, stays}
use Rattle.ghg_script.specs.declared.command.Request.{Request}
use Rattle.ghg_script.specs.declared.script.TableQuery.{TableQuery}
use Rattle.ghg_words.specs.declared.status.Status.{Status}
use Rattle.ghg_session.specs.Replies.{HasNoLines, asked_of, office_step}
use Rattle.ghg_session.specs.Session.{MayLeaveUndone}

-- where there is no reply, nothing changed, and the request may be left undone
pub left_undone : (s : State) (request : Request TableQuery) (stored : Bool) (reply : Reply) (stop : Status) (new : State)
    → Answers (answer_to s (asked_of request)) reply s new → MayFail s (asked_of request) reply
    → (reply ≡ KeeperFault → stored ≡ true) → HasNoLines reply stop
    → (new ≡ s) × MayLeaveUndone (office_step stored s request) stop
unfolding office_step
left_undone s request stored KeeperFault stop new h may kept none =
    (h, inr (none.0, is_appended stored (answer_to s (asked_of request)) (kept refl) may))
left_undone s request stored Memory stop new h may kept none = (h, inl (none.0, memory_needed s (asked_of request) may))
left_undone s request stored (Accepted seq cells) stop new h may kept none = let long = none.1 in absurd cc
left_undone s request stored (Repeated seq) stop new h may kept none = let long = none.1 in absurd cc
left_undone s request stored (Refused rule) stop new h may kept none =
    (h.1 ∙ stays s (asked_of request) (ap is_accepted (sym h.0)), inl (none.0, ap needs_memory (sym h.0)))
left_undone s request stored (Table text) stop new h may kept none =
    (h.1 ∙ stays s (asked_of request) (ap is_accepted (sym h.0)), inl (none.0, ap needs_memory (sym h.0)))
left_undone s request stored NoTable stop new h may kept none = let long = none.1 in absurd cc

-- without a store no request is kept
pub unkept : (stored : Bool) (s : State) (request : Request TableQuery) → stored ≡ false
    → (office_step stored s request).is_kept ≡ false
unfolding office_step
unkept stored s request e = rw e refl

-- of a result that is an error
pub map_if_err : {T E : Type 0} (r : Result T E) (P Q : E → Type 0) → ((e : E) → P e → Q e) → IfErr r P → IfErr r Q
map_if_err (Ok v) P Q f h = tt
map_if_err (Err e) P Q f h = f e h

pub on_if_err : {T E : Type 0} (r : Result T E) (P : E → Type 0) (Q : Type 0) → ((e : E) → P e → Q) → IfErr r P → OnErr r Q
on_if_err (Ok v) P Q f h = tt
on_if_err (Err e) P Q f h = f e h
