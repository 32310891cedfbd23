-- What the program owes for its words. A name with a prime is the same thing after the run: `shelf` and
-- `shelf'` are what the keeper tells before and after it.
use Rattle.std.specs.Prelude.{◌≡◌, ◌⊎◌, ℕ, ◌+◌, ◌≤◌, true, false, Bool, List, map, Option, Some, None, String, codes}
use Rattle.std.specs.Option.{is_some}
use Rattle.std.specs.String.{string_bytes}
use Rattle.ghg_generator.specs.Summary.{submissions, summary}
use Rattle.ghg_keeper.specs.Shelf.{Shelf}
use Rattle.ghg_office.specs.Office.{start}
use Rattle.ghg_office.specs.Replays.{replay_evaluations}
use Rattle.ghg_outer.specs.Counts.{IsCounted}
use Rattle.ghg_outer.specs.Doors.{Register}
use Rattle.ghg_outer.specs.Tape.{Tape}
use Rattle.ghg_words.specs.declared.status.Status.{Status}
use Rattle.ghg_words.specs.declared.status.Status.TheVariants.{Done, BadCommandLine, InputFailed, OutputFailed, StoreFailed, DoorFailed}
use Rattle.ghg_session.specs.Replies.{protocol}
use Rattle.ghg_script.specs.Commands.{line_of}
use Rattle.ghg_session.specs.Session.{Session}
use Rattle.ghg_words.specs.Status.{status_code}
use Rattle.ghg_session.specs.Writing.{Reports}
use Rattle.ghg_words.specs.Command.{command_in}
use Rattle.ghg_words.specs.declared.command.Command.{Command}
use Rattle.ghg_words.specs.declared.command.Command.TheVariants.{Compile, Generate, Review, Serve, Splice}
use Rattle.ghg_words.specs.declared.command.Sample.{Sample}
use Rattle.ghg_words.specs.declared.command.Service.{Service}
use Rattle.ghg_run.specs.Opening.{BeginsNot, ReportsMade, RunsOffice}
use Rattle.ghg_run.specs.Reviewing.{Reviews}
use Rattle.ghg_run.specs.Serve.{Serves, office_at}
use Rattle.ghg_run.specs.Sound.{HasSoundReplies}
use Rattle.ghg_run.specs.Splicing.{Splices}

-- ---- each command

abbrev pub bad_command_line : List ℕ
bad_command_line = line_of (codes "bad command line")

-- No office was opened, and nothing was read. Or an office answered the script that the input holds, as a
-- session, and its replies to any requests for tables are sound.
abbrev pub Compiles : Option (List ℕ) → Shelf → Shelf → Tape → Tape → Tape → Tape → ℕ → ℕ → Status → Type 0
Compiles store shelf shelf' input input' output output' steps steps' status =
    (BeginsNot store shelf shelf' output output' steps steps' status × (input' ≡ input))
    ⊎ RunsOffice store shelf shelf' steps (λ first opened_steps last.
    Session (protocol (is_some store)) first last input input' output output' opened_steps steps' status
    × HasSoundReplies (is_some store) first)

-- No office was opened: no connection was taken, and the keeper's count of faults rose exactly where the
-- status says that the store failed. Or an office served connections, and nothing was written to the output.
abbrev pub ServesAll : Service → Shelf → Shelf → Tape → Tape → Register Tape → Register Tape → ℕ → ℕ
    → Status → Type 0
ServesAll service shelf shelf' output output' door door' steps steps' status =
    (BeginsNot service.settings.store shelf shelf' output output' steps steps' status × (door' ≡ door)
    × IsCounted shelf.faults shelf'.faults (status ≡ StoreFailed))
    ⊎ RunsOffice service.settings.store shelf shelf' steps (λ first opened_steps last.
    Serves service (office_at first opened_steps shelf.faults) (office_at last steps' shelf'.faults)
    door door' status × (output' ≡ output))

-- The summary of the generated submissions was due, for no more steps than these ask for.
abbrev pub Generates : Sample → Tape → Tape → ℕ → ℕ → Status → Type 0
Generates sample output output' steps steps' status =
    ReportsMade output output' (summary sample.seed sample.lines) Done status
    × (steps' ≤ steps + replay_evaluations start (submissions sample.seed sample.lines))

-- ---- any words

-- the command that the words ask for
abbrev pub asked_for : {Z : Type 0} → List (String Z) → Option Command
asked_for words = command_in (map string_bytes words)

-- the store that a command names
abbrev pub store_in : Option Command → Option (List ℕ)
store_in (Some (Compile settings)) = settings.store
store_in (Some (Serve service)) = service.settings.store
store_in _ = None

-- whether a command reads the input
abbrev pub reads_input : Option Command → Bool
reads_input (Some (Compile settings)) = true
reads_input (Some (Splice splicing)) = true
reads_input (Some (Review settings)) = true
reads_input _ = false

-- whether a command opens the door
abbrev pub opens_door : Option Command → Bool
opens_door (Some (Serve service)) = true
opens_door _ = false

-- What a run did for the command that its words ask for. For words that are no command a line was reported.
abbrev pub Runs : Option Command → Shelf → Shelf → Tape → Tape → Tape → Tape → Register Tape → Register Tape
    → ℕ → ℕ → Status → Type 0
Runs None shelf shelf' input input' output output' door door' steps steps' status =
    Reports output output' bad_command_line BadCommandLine status × (steps' ≡ steps)
Runs (Some (Compile settings)) shelf shelf' input input' output output' door door' steps steps' status =
    Compiles settings.store shelf shelf' input input' output output' steps steps' status
Runs (Some (Serve service)) shelf shelf' input input' output output' door door' steps steps' status =
    ServesAll service shelf shelf' output output' door door' steps steps' status
Runs (Some (Generate sample)) shelf shelf' input input' output output' door door' steps steps' status =
    Generates sample output output' steps steps' status
Runs (Some (Splice splicing)) shelf shelf' input input' output output' door door' steps steps' status =
    Splices splicing input input' output output' status × (steps' ≡ steps)
Runs (Some (Review settings)) shelf shelf' input input' output output' door door' steps steps' status =
    Reviews input input' output output' steps steps' status

-- A count of faults rose exactly where the status is that failure. For `serve`, `ServesAll` says it of the
-- keeper: what it fails at while connections are served is replied on them, and counted with each.
pub record FaultsAreCounted (command : Option Command) (shelf shelf' : Shelf)
    (input input' output output' : Tape) (door door' : Register Tape) (status : Status) : Type 0 where
  pub input_counted : IsCounted input.faults input'.faults (status ≡ InputFailed)
  pub output_counted : IsCounted output.faults output'.faults (status ≡ OutputFailed)
  pub keeper_counted : opens_door command ≡ false
      → IsCounted shelf.faults shelf'.faults (status ≡ StoreFailed)
  pub door_counted : IsCounted door.faults door'.faults (status ≡ DoorFailed)

-- A run did what the command asks for, and ended with a status, whose number it answered. The counts of
-- faults rose as the status says.
abbrev pub IsRun : Option Command → Shelf → Shelf → Tape → Tape → Tape → Tape → Register Tape → Register Tape
    → ℕ → ℕ → ℕ → Type 0
IsRun command shelf shelf' input input' output output' door door' steps steps' code =
    (status : Status) × (code ≡ status_code status)
    × Runs command shelf shelf' input input' output output' door door' steps steps' status
    × FaultsAreCounted command shelf shelf' input input' output output' door door' status
