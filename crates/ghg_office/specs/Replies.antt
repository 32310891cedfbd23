-- The texts of replies.
use Rattle.std.specs.Prelude.{◌≡◌, ⊤, ℕ, Bool, true, false, List, ◌++◌, codes, Result, Ok, Err}
use Rattle.std.specs.Fmt.{decimal}
use Rattle.ghg_data.specs.declared.refusal.PlanRefusal.{PlanRefusal}
use Rattle.ghg_data.specs.declared.refusal.PlanRefusal.TheVariants as refusal
use Rattle.ghg_office.specs.declared.reply.Acceptance.{Acceptance}
use Rattle.ghg_office.specs.declared.reply.Reply.{Reply}
use Rattle.ghg_office.specs.declared.reply.Reply.TheVariants.{Accepted, Repeated, Refused, Table, NoTable, KeeperFault, Memory}
use Rattle.ghg_keeper.specs.declared.keeper.KeepError.{KeepError}
use Rattle.ghg_keeper.specs.declared.keeper.KeepError.TheVariants as keep_error
use Rattle.ghg_office.specs.Office.{Answer, State}
use Rattle.ghg_units.specs.Refusals.{refusal_text}

-- the line of a reply, without its end; a table is its own lines
unfoldable pub reply_text : Reply → List ℕ
reply_text (Accepted seq cells) = codes "accepted " ++ decimal seq
reply_text (Repeated seq) = codes "repeated " ++ decimal seq
reply_text (Refused rule) = codes "refused " ++ refusal_text rule
reply_text (Table text) = text
reply_text NoTable = codes "no table"
reply_text KeeperFault = codes "keeper fault"
reply_text Memory = codes "memory"

-- whether the line of the reply has a fixed length at most, and needs no memory; a failure has no such line
abbrev pub is_short : Reply → Bool
is_short (Accepted seq cells) = true
is_short (Repeated seq) = true
is_short NoTable = true
is_short reply = false

-- a repeat is answered without memory, and so is a request for a table that is not there
abbrev pub needs_memory : Reply → Bool
needs_memory (Repeated seq) = false
needs_memory NoTable = false
needs_memory reply = true

abbrev pub is_table : Reply → Bool
is_table (Table text) = true
is_table reply = false

abbrev pub is_accepted : Reply → Bool
is_accepted (Accepted seq cells) = true
is_accepted reply = false

-- whether the reply says that the keeper failed or memory ran out
abbrev pub is_failure : Reply → Bool
is_failure KeeperFault = true
is_failure Memory = true
is_failure reply = false

-- The reply is that of the answer, and the state the one after it. Where the keeper failed or memory ran out,
-- nothing changed.
abbrev pub Answers : Answer → Reply → State → State → Type 0
Answers answer KeeperFault old new = new ≡ old
Answers answer Memory old new = new ≡ old
Answers answer reply old new = (reply ≡ answer.reply) × (new ≡ answer.after)

-- the reply is this one, but where memory ran out
abbrev pub Shows : Reply → Reply → Type 0
Shows due Memory = ⊤
Shows due reply = reply ≡ due

-- the reply to a submission that is accepted so, or the reply in its place
abbrev pub reply_of : Result Acceptance Reply → Reply
reply_of (Ok made) = Accepted made.seq made.cells
reply_of (Err reply) = reply

-- the reply where rows are not planned
abbrev pub plan_reply : PlanRefusal → Reply
plan_reply (refusal.Rule rule) = Refused rule
plan_reply refusal.Memory = Memory

-- the reply where a keeper has no answer
abbrev pub keep_reply : KeepError → Reply
keep_reply keep_error.Failed = KeeperFault
keep_reply keep_error.Memory = Memory
