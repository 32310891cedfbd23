-- What a session does, over any requests: what it reads, the replies that it writes, and how it ends.
use Rattle.std.specs.Prelude.{◌≡◌, ⊤, ℕ, ◌+◌, ◌≤◌, ◌<◌, ◌⊎◌, Bool, true, false, List, [], ◌∷◌, ◌++◌, length, take, Option, Some, None, codes}
use Rattle.std.specs.Fmt.{decimal}
use Rattle.ghg_outer.specs.Tape.{Appends, AppendsPrefix, AppendsProperPrefix, Consumes, Tape}
use Rattle.ghg_words.specs.declared.status.Status.{Status}
use Rattle.ghg_words.specs.declared.status.Status.TheVariants.{Done, NoScript, InputFailed, OutputFailed, StoreFailed, OutOfMemory}
use Rattle.ghg_script.specs.declared.command.Command.{Command}
use Rattle.ghg_script.specs.declared.command.Request.{Request}
use Rattle.ghg_script.specs.Commands.{Forms, Grammar, commands_of, line_of}
use Rattle.ghg_script.specs.Reading.{IsBeforeNextCommand, IsMalformed, IsScriptOf, ReadsAs, most_commands, reading_of}
use Rattle.ghg_session.specs.declared.reply.Lines.{Lines}
use Rattle.ghg_session.specs.declared.reply.Lines.TheVariants.{Short, Long}

-- ---- a request

-- the bytes of lines
abbrev pub bytes_of : Lines → List ℕ
bytes_of (Short line) = line.items
bytes_of (Long first below) = first.items ++ below

-- What a request comes to: the lines that reply to it, and the state after it; whether it takes memory to
-- answer it; whether a store has to keep it; and the most steps that it may take.
pub record Step (State : Type 0) : Type 0 where
  pub reply : List ℕ
  pub after : State
  pub takes_memory : Bool
  pub is_kept : Bool
  pub steps : ℕ

-- Why a request is left undone: memory ran out, and it takes memory to answer it; or the keeper failed, and
-- it has to be kept.
abbrev pub MayLeaveUndone : {State : Type 0} → Step State → Status → Type 0
MayLeaveUndone step status = ((status ≡ OutOfMemory) × (step.takes_memory ≡ true))
    ⊎ ((status ≡ StoreFailed) × (step.is_kept ≡ true))

-- how the requests of a session are written, and what they come to
pub record Protocol (State Request : Type 0) : Type 0 where
  pub commands : Grammar (Command Request)
  pub step : State → Request → Step State

-- that of a dialect, and of the steps that requests come to
abbrev pub protocol_of : {State Q : Type 0} → Forms Q → (State → Request Q → Step State)
    → Protocol State (Request Q)
protocol_of forms step = record { commands = commands_of forms; step = step }

-- ---- requests, one after the other

-- the replies
abbrev pub replies : {State Request : Type 0} → Protocol State Request → State → List Request → List ℕ
replies p s [] = []
replies p s (asked ∷ rest) = (p.step s asked).reply ++ replies p (p.step s asked).after rest

-- `holds` is true of the state before each request, the request, and the lines that reply to it.
abbrev pub EachReply : {State Request : Type 0} → Protocol State Request
    → (State → Request → List ℕ → Type 0) → State → List Request → Type 0
EachReply p holds s [] = ⊤
EachReply p holds s (asked ∷ rest) =
    holds s asked (p.step s asked).reply × EachReply p holds (p.step s asked).after rest

-- the state after them
abbrev pub state_after : {State Request : Type 0} → Protocol State Request → State → List Request → State
state_after p s [] = s
state_after p s (asked ∷ rest) = state_after p (p.step s asked).after rest

-- the most steps that they may take
abbrev pub steps_of : {State Request : Type 0} → Protocol State Request → State → List Request → ℕ
steps_of p s [] = 0
steps_of p s (asked ∷ rest) = (p.step s asked).steps + steps_of p (p.step s asked).after rest

-- ---- how a session ends

-- the line that names the command that is none
abbrev pub wrong_line : ℕ → List ℕ
wrong_line number = line_of (codes "not a script: command " ++ decimal number)

-- One more request was read, and left undone with this status. After it nothing was read.
pub record LeavesUndone {State Request : Type 0} (p : Protocol State Request) (now : State) (took : List ℕ)
    (answered : List Request) (status : Status) : Type 0 where
  pub asked : Request
  pub holds : ReadsAs p.commands took (answered ++ asked ∷ []) []
  pub why : MayLeaveUndone (p.step now asked) status

-- After the replies to the requests that were answered these lines are due next, and this is the last state.
-- They are the reply to one more request, after which nothing was read, and the state is the one after it. Or
-- no command follows, they are the line that says so, and the state is as it was.
abbrev pub IsDueNext : {State Request : Type 0} → Protocol State Request → State → State → Tape → List ℕ
    → List Request → List ℕ → Type 0
IsDueNext p now last left took answered lines =
    ((asked : _) × ReadsAs p.commands took (answered ++ asked ∷ []) [] × (lines ≡ (p.step now asked).reply)
    × (last ≡ (p.step now asked).after))
    ⊎ (IsMalformed p.commands left took answered × (lines ≡ wrong_line (length answered + 1)) × (last ≡ now))

-- Of the lines that are due next a proper prefix was written.
pub record BreaksOff {State Request : Type 0} (p : Protocol State Request) (now last : State) (left : Tape)
    (took : List ℕ) (answered : List Request) (part : List ℕ) : Type 0 where
  pub lines : List ℕ
  pub due : IsDueNext p now last left took answered lines
  pub count : ℕ
  pub short : count < length lines
  pub prefix : part ≡ take count lines

-- The script may have one more command, which was not read to its end.
abbrev pub StopsReading : {State Request : Type 0} → Protocol State Request → List ℕ → List Request → Type 0
StopsReading p took answered =
    (length answered < most_commands) × IsBeforeNextCommand p.commands took answered

-- How a session ends, by its status: `took` was read, these requests were answered, which left the state
-- `now`, and the part was written after their replies. The last state is `last`. `left` is the tape of the
-- input in the end, and `grows` says whether a write to the output takes memory.
abbrev pub EndsBy : {State Request : Type 0} → Protocol State Request → State → State → Tape → Bool → List ℕ
    → List Request → List ℕ → Status → Type 0
-- what was read is a script of these requests
EndsBy p now last left grows took answered part Done =
    IsScriptOf p.commands took answered × (part ≡ []) × (last ≡ now)
-- no command follows, and the line that says so was written
EndsBy p now last left grows took answered part NoScript =
    IsMalformed p.commands left took answered × (part ≡ wrong_line (length answered + 1)) × (last ≡ now)
-- the next command was not read to its end
EndsBy p now last left grows took answered part InputFailed =
    StopsReading p took answered × (part ≡ []) × (last ≡ now)
-- the lines that are due next were broken off
EndsBy p now last left grows took answered part OutputFailed = BreaksOff p now last left took answered part
-- the next request was read, which is to be kept, and left undone
EndsBy p now last left grows took answered part StoreFailed =
    LeavesUndone p now took answered StoreFailed × (part ≡ []) × (last ≡ now)
-- the next command was not read to its end, or the next request, whose answer takes memory, was left undone;
-- or the output grows, and the lines that are due next were broken off
EndsBy p now last left grows took answered part OutOfMemory =
    ((StopsReading p took answered ⊎ LeavesUndone p now took answered OutOfMemory)
    × (part ≡ []) × (last ≡ now))
    ⊎ ((grows ≡ true) × BreaksOff p now last left took answered part)
-- no other status ends a session
EndsBy p now last left grows took answered part _ = ⊥

-- What a session did, from the state `first` to the state `last`.
pub record Session {State Request : Type 0} (p : Protocol State Request) (first last : State)
    (input input' output output' : Tape) (steps steps' : ℕ) (status : Status) : Type 0 where
  -- the bytes that it read, and no more
  pub took : List ℕ
  pub read : Consumes input input' took
  -- the requests whose replies it wrote, and what it wrote after them
  pub answered : List Request
  pub part : List ℕ
  pub wrote : Appends output output' (replies p first answered ++ part)
  pub ends : EndsBy p (state_after p first answered) last input' output.grows took answered part status
  -- no more steps than the requests ask for that it read
  pub spent : steps' ≤ steps + steps_of p first (reading_of p.commands took).requests

-- none of the requests that these bytes begin with is to be kept
abbrev pub KeepsNone : {State Request : Type 0} → Protocol State Request → State → List ℕ → Type 0
KeepsNone p s took =
    EachReply p (λ now asked _. (p.step now asked).is_kept ≡ false) s (reading_of p.commands took).requests

-- ---- what is due of the bytes that are left to be read

-- what follows the replies, and the status then
abbrev pub last_line : Option ℕ → List ℕ
last_line None = []
last_line (Some number) = wrong_line number

abbrev pub last_status : Option ℕ → Status
last_status None = Done
last_status (Some number) = NoScript

-- the output that is due of bytes: the replies, and the line that names the command that is none
abbrev pub due : {State Request : Type 0} → Protocol State Request → State → List ℕ → List ℕ
due p s bytes =
    replies p s (reading_of p.commands bytes).requests ++ last_line (reading_of p.commands bytes).wrong

-- What a session did of the bytes that were left to be read.
pub record IsDecided {State Request : Type 0} (p : Protocol State Request) (s : State) (bytes : List ℕ)
    (input' output output' : Tape) (status : Status) : Type 0 where
  -- With every status a prefix of what is due was written, and if the output failed a proper one.
  pub begun : AppendsPrefix output output' (due p s bytes)
  pub short : status ≡ OutputFailed → AppendsProperPrefix output output' (due p s bytes)
  -- At the end all of it was written, and the bytes decide the status.
  pub done : (status ≡ Done) ⊎ (status ≡ NoScript) → Appends output output' (due p s bytes)
      × (status ≡ last_status (reading_of p.commands bytes).wrong)
  -- What stands after END is left.
  pub behind : status ≡ Done → input'.left ≡ Some (reading_of p.commands bytes).rest

-- ---- what holds of every script, and of every session

-- If the input tells what is left, that decides what a session writes.
abbrev pub WhatIsLeftDecides : {State Request : Type 0} → Protocol State Request → Type 0
WhatIsLeftDecides {State} p = (first last : State) (input input' output output' : Tape) (steps steps' : ℕ)
    (status : Status) → Session p first last input input' output output' steps steps' status
    → (bytes : List ℕ) → input.left ≡ Some bytes → IsDecided p first bytes input' output output' status
