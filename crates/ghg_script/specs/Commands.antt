-- How commands stand in a script, whatever its lines may say.
use Rattle.std.specs.Prelude.{◌≡◌, ◌↔◌, ℕ, ◌+◌, ◌≤◌, Bool, true, not, List, [], ◌∷◌, ◌++◌, length, take, drop, Option, Some, None, ◌==◌, nat_le, if◌then◌else◌, position, option_map}
use Rattle.std.specs.List.{list_all}
use Rattle.std.specs.Option.{option_map_or}
use Rattle.ghg_import.specs.Body.{max_body}
use Rattle.ghg_units.specs.Steps.{◌>>=◌}
use Rattle.ghg_script.specs.declared.command.Command.{Command}
use Rattle.ghg_script.specs.declared.command.Command.TheVariants as command
use Rattle.ghg_script.specs.declared.command.Line.{Line}
use Rattle.ghg_script.specs.declared.command.Line.TheVariants as line
use Rattle.ghg_script.specs.declared.command.Request.{Request}
use Rattle.ghg_script.specs.declared.command.Request.TheVariants as request
use Rattle.ghg_script.specs.declared.reading.TheConstants.{LONGEST_LINE}

-- Which texts are values: the value whose text bytes begin with, and what follows it, or none; and how many
-- of the bytes a reader takes at most to find that they begin with none.
pub record Grammar (T : Type 0) : Type 0 where
  pub parse : List ℕ → Option (T × List ℕ)
  pub reach : List ℕ → ℕ

-- what lines say, or nothing where they begin no command
abbrev pub Forms : Type 0 → Type 0
Forms Q = List ℕ → Option (Line Q)

-- ---- a line

-- what stands before the first such byte, and behind it
abbrev pub split_at : ℕ → List ℕ → Option (List ℕ × List ℕ)
split_at byte bytes =
    option_map (λ at. (take at bytes, drop (at + 1) bytes)) (position (λ b. b == byte) bytes)

-- bytes without this one
abbrev pub lacks : ℕ → List ℕ → Bool
lacks byte bytes = list_all (λ b. not (b == byte)) bytes

-- a text, and the line feed that ends it
abbrev pub line_of : List ℕ → List ℕ
line_of text = text ++ 10 ∷ []

-- the most bytes that a line has before its line feed
abbrev pub longest_line : ℕ
longest_line = LONGEST_LINE

-- the first line without its line feed, if it is no longer than that, and what follows
unfoldable pub line_at : List ℕ → Option (List ℕ × List ℕ)
line_at bytes = do
  split ← split_at 10 bytes
  if nat_le (length split.0) longest_line then Some split else None

-- ---- a command

-- of a body only so many bytes are kept, which is one more than the longest that is taken
abbrev pub most_kept : ℕ
most_kept = max_body + 1

-- what is kept of the body of so many bytes that bytes begin with, and what follows it
abbrev pub body_at : ℕ → List ℕ → Option (List ℕ × List ℕ)
body_at n bytes =
    if nat_le n (length bytes) then Some (take most_kept (take n bytes), drop n bytes) else None

-- the command that a line begins, and what follows it; the body stands after the line
abbrev pub command_of : {Q : Type 0} → Line Q → List ℕ → Option (Command (Request Q) × List ℕ)
command_of (line.Submit id n) rest =
    option_map (λ body. (command.Request (request.Submit id body.0), body.1)) (body_at n rest)
command_of (line.Query query) rest = Some (command.Request (request.Query query), rest)
command_of line.End rest = Some (command.End, rest)

-- the command that bytes begin with, and what follows it
unfoldable pub command_at : {Q : Type 0} → Forms Q → List ℕ → Option (Command (Request Q) × List ℕ)
command_at forms bytes = do
  split ← line_at bytes
  said ← forms split.0
  command_of said split.1

-- how many bytes of body a line asks for
abbrev pub body_length : {Q : Type 0} → Option (Line Q) → ℕ
body_length (Some (line.Submit id n)) = n
body_length (Some (line.Query query)) = 0
body_length (Some line.End) = 0
body_length None = 0

-- A line is taken to its end, or to the byte that is one too many, and then no more than the body that it
-- asks for.
unfoldable pub command_reach : {Q : Type 0} → Forms Q → List ℕ → ℕ
command_reach forms bytes =
    option_map_or (λ split. length split.0 + 1 + body_length (forms split.0)) (line_at bytes)
    (longest_line + 1)

abbrev pub lines : Grammar (List ℕ)
lines = record { parse = line_at; reach = λ _. longest_line + 1 }

abbrev pub bodies : ℕ → Grammar (List ℕ)
bodies n = record { parse = body_at n; reach = λ _. n }

abbrev pub commands_of : {Q : Type 0} → Forms Q → Grammar (Command (Request Q))
commands_of forms = record { parse = command_at forms; reach = command_reach forms }

-- ---- the text of a command

-- The text of a command is a line that says so, and the body that it asks for.
pub record IsTextOf {Q : Type 0} (forms : Forms Q) (found : Command (Request Q)) (text : List ℕ)
    : Type 0 where
  pub line : List ℕ
  pub body : List ℕ
  pub said : Line Q
  pub written : text ≡ line_of line ++ body
  pub short : length line ≤ longest_line
  pub plain : lacks 10 line ≡ true
  pub says : forms line ≡ Some said
  pub whole : command_of said body ≡ Some (found, [])

-- Bytes begin with a command exactly where its text is a prefix of them.
abbrev pub ParsesTexts : {Q : Type 0} → Forms Q → Type 0
ParsesTexts {Q} forms = (bytes rest : List ℕ) (found : Command (Request Q))
    → (command_at forms bytes ≡ Some (found, rest))
    ↔ ((text : List ℕ) × (bytes ≡ text ++ rest) × IsTextOf forms found text)
