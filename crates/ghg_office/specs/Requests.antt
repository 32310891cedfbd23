-- What is asked of an office, and what it answers.
use Rattle.std.specs.Prelude.{◌≡◌, ◌≢◌, ⊤, ℕ, true, List}
use Rattle.std.specs.Borrow.{Bor}
use Rattle.ghg_office.specs.Office.{Answer, IsRead, State, evaluations, requested, submitted, unchanged}
use Rattle.ghg_office.specs.Replies.{is_accepted}
use Rattle.ghg_office.specs.declared.reply.Reply.{Reply}
use Rattle.ghg_office.specs.declared.reply.Reply.TheVariants.{KeeperFault, Memory, NoTable}
use Rattle.ghg_office.specs.declared.request.Request.{Request}
use Rattle.ghg_office.specs.declared.request.Request.TheVariants.{Submit, Show}

-- a request whose texts are borrowed, with the bytes of these
abbrev pub seen : Request (Bor (List ℕ)) → Request (List ℕ)
seen (Submit id body) = Submit id.now body.now
seen (Show table year) = Show table.now year

-- the answer to a request, and the state after it
abbrev pub answer_to : State → Request (List ℕ) → Answer
answer_to s (Submit id body) = submitted s id body
answer_to s (Show table year) = unchanged s (requested s table year)

-- how many evaluations a request asks for: for a table none
abbrev pub evaluations_for : State → Request (List ℕ) → ℕ
evaluations_for s (Submit id body) = evaluations s id body
evaluations_for s (Show table year) = 0

-- Which requests the office may fail at: the keeper fails at a new submission that breaks no rule, and memory
-- runs out for a new submission whose body is read, or for a table that there is. So a repeat meets neither.
abbrev pub MayFail : State → Request (List ℕ) → Reply → Type 0
MayFail s request KeeperFault = is_accepted (answer_to s request).reply ≡ true
MayFail s (Submit id body) Memory = IsRead s id body
MayFail s (Show table year) Memory = requested s table year ≢ NoTable
MayFail s request reply = ⊤
