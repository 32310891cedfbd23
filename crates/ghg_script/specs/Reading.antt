-- What bytes read as: the requests of a script, and what begins with no command.
use Rattle.std.specs.Prelude.{◌≡◌, ◌⊎◌, ℕ, zero, suc, ◌+◌, ◌≤◌, List, [], ◌∷◌, ◌++◌, length, Option, Some, None}
use Rattle.std.specs.Option.{option_map_or}
use Rattle.ghg_outer.specs.Tape.{IsAtEnd, Tape}
use Rattle.ghg_script.specs.declared.command.Command.{Command}
use Rattle.ghg_script.specs.declared.command.Command.TheVariants as command
use Rattle.ghg_script.specs.declared.command.Request.{Request}
use Rattle.ghg_script.specs.declared.reading.TheConstants.{MOST_COMMANDS}
use Rattle.ghg_script.specs.Commands.{Forms, Grammar, commands_of}

-- What a script asks for, in order. Where the bytes are no script, the number of the first command that is
-- none, or one too many. The bytes that stand behind END, or where that command should.
pub record Reading (Request : Type 0) : Type 0 where
  pub requests : List Request
  pub wrong : Option ℕ
  pub rest : List ℕ

-- the script has its end
abbrev pub ended : {Request : Type 0} → List ℕ → Reading Request
ended rest = record { requests = []; wrong = None; rest = rest }

-- the command of this number is none
abbrev pub no_command : {Request : Type 0} → ℕ → List ℕ → Reading Request
no_command number rest = record { requests = []; wrong = Some number; rest = rest }

-- requests, and then those of the rest
abbrev pub after_requests : {Request : Type 0} → List Request → Reading Request → Reading Request
after_requests requests reading = record reading { requests = requests ++ reading.requests }

-- more bytes behind
abbrev pub with_more : {Request : Type 0} → List ℕ → Reading Request → Reading Request
with_more more reading = record reading { rest = reading.rest ++ more }

abbrev pub read_on : {Request : Type 0} → (List ℕ → Reading Request) → Command Request → List ℕ
    → Reading Request
read_on later (command.Request asked) rest = after_requests (asked ∷ []) (later rest)
read_on later command.End rest = ended rest

-- what bytes read as, where at most so many commands may come and the next has this number
unfoldable pub reading : {Request : Type 0} → Grammar (Command Request) → ℕ → ℕ → List ℕ → Reading Request
reading g zero number bytes = no_command number bytes
reading g (suc n) number bytes =
    option_map_or (λ found. read_on (λ rest. reading g n (number + 1) rest) found.0 found.1) (g.parse bytes)
    (no_command number bytes)

-- a script has at most so many commands, END included
abbrev pub most_commands : ℕ
most_commands = MOST_COMMANDS

abbrev pub reading_of : {Request : Type 0} → Grammar (Command Request) → List ℕ → Reading Request
reading_of g bytes = reading g most_commands 1 bytes

-- ---- what was read

-- the bytes are a script: these requests, and the line of END, with nothing after it
abbrev pub IsScriptOf : {Request : Type 0} → Grammar (Command Request) → List ℕ → List Request → Type 0
IsScriptOf g bytes requests = reading_of g bytes ≡ record { requests = requests; wrong = None; rest = [] }

-- the bytes are these requests, and after them this, which begins with no command, or with one too many
abbrev pub ReadsAs : {Request : Type 0} → Grammar (Command Request) → List ℕ → List Request → List ℕ → Type 0
ReadsAs g bytes requests rest =
    reading_of g bytes ≡ record { requests = requests; wrong = Some (length requests + 1); rest = rest }

-- What was read after these requests begins with no command, or with one too many, and is no more than it
-- takes to find out whether a command follows.
pub record IsBeforeNextCommand {Request : Type 0} (g : Grammar (Command Request)) (took : List ℕ)
    (requests : List Request) : Type 0 where
  pub rest : List ℕ
  pub holds : ReadsAs g took requests rest
  pub near : length rest ≤ g.reach rest

-- No command follows these requests: nothing is left, or whatever comes next the bytes read as these requests
-- alone.
pub record IsMalformed {Request : Type 0} (g : Grammar (Command Request)) (left : Tape) (took : List ℕ)
    (requests : List Request) : Type 0 where
  pub read : IsBeforeNextCommand g took requests
  pub final : IsAtEnd left ⊎ ((more : List ℕ) → ReadsAs g (took ++ more) requests (read.rest ++ more))

-- ---- what holds of every script

-- What follows the line of END changes nothing.
abbrev pub ReadsLocally : {Q : Type 0} → Forms Q → Type 0
ReadsLocally forms = (bytes more : List ℕ) → (reading_of (commands_of forms) bytes).wrong ≡ None
    → reading_of (commands_of forms) (bytes ++ more) ≡ with_more more (reading_of (commands_of forms) bytes)

-- The same bytes begin with one script at most.
abbrev pub ReadsOnce : {Q : Type 0} → Forms Q → Type 0
ReadsOnce {Q} forms = (a b behind_a behind_b : List ℕ) (xs ys : List (Request Q))
    → IsScriptOf (commands_of forms) a xs → IsScriptOf (commands_of forms) b ys
    → a ++ behind_a ≡ b ++ behind_b → (a ≡ b) × (xs ≡ ys)
