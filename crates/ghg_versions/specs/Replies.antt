-- What a desk replies.
use Rattle.std.specs.Prelude.{◌≡◌, ⊤, Bool, true, false}
use Rattle.ghg_office.specs.Replies.{is_failure}
use Rattle.ghg_office.specs.declared.reply.Reply.{Reply}
use Rattle.ghg_office.specs.declared.reply.Reply.TheVariants as office
use Rattle.ghg_versions.specs.declared.reply.DeskReply.{DeskReply}
use Rattle.ghg_versions.specs.declared.reply.DeskReply.TheVariants.{Office, Frozen, Table, Memory}
use Rattle.ghg_versions.specs.Desk.{DeskAnswer, DeskState}

-- The reply is that of the answer, and the state the one after it. Where memory ran out, nothing changed.
abbrev pub Answers : DeskAnswer → DeskReply → DeskState → DeskState → Type 0
Answers answer Memory old new = new ≡ old
Answers answer reply old new = (reply ≡ answer.reply) × (new ≡ answer.after)

-- the reply is this one, but where memory ran out
abbrev pub Shows : DeskReply → DeskReply → Type 0
Shows due Memory = ⊤
Shows due reply = reply ≡ due

-- the office's reply is not that its keeper failed, nor that memory ran out
abbrev pub HasNoFailure : DeskReply → Type 0
HasNoFailure (Office reply) = is_failure reply ≡ false
HasNoFailure reply = ⊤

-- the reply where the office gives this one
abbrev pub office_reply : Reply → DeskReply
office_reply office.Memory = Memory
office_reply reply = Office reply

-- a repeat is answered without memory, and so is a request for a table that is not there
abbrev pub takes_memory_for : Reply → Bool
takes_memory_for (office.Repeated seq) = false
takes_memory_for office.NoTable = false
takes_memory_for reply = true

-- what is refused of a version is answered without memory too
abbrev pub takes_memory : DeskReply → Bool
takes_memory (Office reply) = takes_memory_for reply
takes_memory (Frozen seq) = true
takes_memory (Table text) = true
takes_memory reply = false
