-- What comes of a link that is served: a request is read from it, the office answers, and the reply is
-- written to it.
use Rattle.std.specs.Prelude.{◌≡◌, ◌==◌, ℕ, Bool, true, false, ◌+◌, ◌<◌, ◌≤◌, List, [], length, take, Option, Some, None, Result, IfOk}
use Rattle.std.specs.declared.alloc.AllocError.{AllocError}
use Rattle.ghg_outer.specs.Counts.{IsCounted}
use Rattle.ghg_outer.specs.Tape.{Appends, AppendsProperPrefix, Consumes, IsAtEnd, Tape}
use Rattle.ghg_office.specs.Keeping.{is_to_append}
use Rattle.ghg_office.specs.Office.{State}
use Rattle.ghg_office.specs.Replies.{Answers}
use Rattle.ghg_office.specs.Requests.{MayFail, answer_to, evaluations_for}
use Rattle.ghg_office.specs.declared.reply.Reply.{Reply}
use Rattle.ghg_http.specs.Receive.{EndsEarly, HoldsRequest, IsPrompt}
use Rattle.ghg_http.specs.Reply.{HttpReply, IsMessageOf, reply_bytes}
use Rattle.ghg_http.specs.Statuses.{office_reply, refusal_reply}
use Rattle.ghg_http.specs.declared.reply.Message.{Message}
use Rattle.ghg_http.specs.declared.request.Request.{Request}
use Rattle.ghg_http.specs.declared.request.Request.TheVariants.{Refused, Asked}
use Rattle.ghg_http.specs.declared.serve.LinkEnd.{LinkEnd}
use Rattle.ghg_http.specs.declared.serve.LinkEnd.TheVariants.{Served, Cut, LinkFault, Memory}

-- ---- the reply to a request

-- The office's answer to a request, and the state after it, as the reply that is due. Where the keeper failed
-- or memory ran out, the reply says so, and the state is as before.
abbrev pub Replies : State → Request → HttpReply → State → Type 0
Replies s (Refused reason) due after = (due ≡ refusal_reply reason) × (after ≡ s)
Replies s (Asked request) due after = (answer : Reply) × Answers (answer_to s request) answer s after
    × MayFail s request answer × (due ≡ office_reply answer)

-- The office answered the request, and where there was memory for it, this is the reply.
pub record AnswersRequest (s : State) (request : Request) (due : HttpReply) (after : State)
    (result : Result Message AllocError) : Type 0 where
  pub replies : Replies s request due after
  pub made : IfOk result (IsMessageOf due)

-- how many evaluations the office is asked for, if there is a request
abbrev pub evaluations_asked : State → Option Request → ℕ
evaluations_asked s (Some (Asked request)) = evaluations_for s request
evaluations_asked s request = 0

-- whether there is a request, which is a submission that is to be stored and breaks no rule
abbrev pub asks_to_append : Bool → State → Option Request → Bool
asks_to_append stored s (Some (Asked request)) = is_to_append stored (answer_to s request)
asks_to_append stored s request = false

-- ---- what passes over a link

-- The states of the office before and after; the request that was answered, if one was; what was taken from
-- the link, and what was written to it.
pub record Exchange : Type 0 where
  pub before : State
  pub after : State
  pub asked : Option Request
  pub taken : List ℕ
  pub written : List ℕ

-- What was taken holds the request that was answered, to which this reply is due. Nothing was taken once the
-- whole request had come.
pub record IsAnswered (x : Exchange) (due : HttpReply) : Type 0 where
  pub request : Request
  pub asked : x.asked ≡ Some request
  pub holds : HoldsRequest x.taken request
  pub prompt : IsPrompt x.taken
  pub replies : Replies x.before request due x.after

-- The whole reply was written.
pub record IsReplied (x : Exchange) (due : HttpReply) (code : ℕ) : Type 0 where
  pub answered : IsAnswered x due
  pub code_is : due.code ≡ code
  pub whole : x.written ≡ reply_bytes due

-- A proper prefix of the reply was written, perhaps nothing.
pub record BreaksOff (x : Exchange) (due : HttpReply) : Type 0 where
  pub answered : IsAnswered x due
  pub count : ℕ
  pub short : count < length (reply_bytes due)
  pub prefix : x.written ≡ take count (reply_bytes due)

-- Nothing was answered.
pub record IsUnanswered (x : Exchange) : Type 0 where
  pub same : x.after ≡ x.before
  pub nothing : x.written ≡ []
  pub none : x.asked ≡ None

-- What was taken ends before a whole request, and nothing was answered.
pub record IsCutOff (x : Exchange) : Type 0 where
  pub early : EndsEarly x.taken
  pub unanswered : IsUnanswered x

-- Memory ran out before a request was answered. Nothing was taken once a whole request had come.
pub record RunsOut (x : Exchange) : Type 0 where
  pub prompt : IsPrompt x.taken
  pub unanswered : IsUnanswered x

-- what passes over a link that ends so, where this reply was due, or none was
abbrev pub Passes : Exchange → Option HttpReply → LinkEnd → Type 0
Passes x (Some due) (Served code) = IsReplied x due code
Passes x (Some due) Cut = ⊥
Passes x (Some due) LinkFault = BreaksOff x due
Passes x (Some due) Memory = BreaksOff x due
Passes x None (Served code) = ⊥
Passes x None Cut = IsCutOff x
Passes x None LinkFault = IsCutOff x
Passes x None Memory = RunsOut x

-- The bytes that were taken were read from the link, and then those that were written were appended to it.
abbrev pub Exchanges : Tape → Tape → Exchange → Type 0
Exchanges before after x =
    (between : Tape) × Consumes before between x.taken × Appends between after x.written

-- ---- serving a link

-- the whole message was written, or a proper prefix of it, and then the link failed or memory ran out
abbrev pub Sends : Tape → Tape → Message → LinkEnd → Type 0
Sends before after message (Served code) = (code ≡ message.status) × Appends before after message.bytes.items
Sends before after message Cut = ⊥
Sends before after message end = AppendsProperPrefix before after message.bytes.items

-- what a serving acts on, but for the keeper
pub record Snapshot : Type 0 where
  pub state : State
  pub link : Tape
  pub steps : ℕ

abbrev pub snapshot : State → Tape → ℕ → Snapshot
snapshot state link steps = record { state = state; link = link; steps = steps }

-- This passed over the link, which ended so, where this reply was due, or none was. The link's count of
-- faults rose exactly where it failed. No more steps were taken than the request asks for.
pub record ServesLink (before after : Snapshot) (due : Option HttpReply) (end : LinkEnd) : Type 0 where
  pub exchange : Exchange
  pub from : exchange.before ≡ before.state
  pub to : exchange.after ≡ after.state
  pub link : Exchanges before.link after.link exchange
  pub passes : Passes exchange due end
  pub cut : end ≡ Cut → IsAtEnd after.link
  pub counted : IsCounted before.link.faults after.link.faults (end ≡ LinkFault)
  pub spent : after.steps ≤ before.steps + evaluations_asked before.state exchange.asked

-- ---- faults of the keeper

-- whether the reply that was due is that the keeper failed
abbrev pub is_unavailable : Option HttpReply → Bool
is_unavailable (Some due) = due.code == 503
is_unavailable None = false

-- The keeper's count of faults rose exactly where the reply that was due is that the keeper failed. Then
-- submissions are stored.
pub record TellsFaults (due : Option HttpReply) (stored : Bool) (before now : ℕ) : Type 0 where
  pub counted : IsCounted before now (is_unavailable due ≡ true)
  pub store : is_unavailable due ≡ true → stored ≡ true
