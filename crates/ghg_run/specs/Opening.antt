-- The office that a run begins with, and what it leaves in a store.
use Rattle.std.specs.Prelude.{◌≡◌, ⊤, ◌⊎◌, ℕ, ◌+◌, ◌≤◌, List, ◌++◌, Option, Some, None, IfSome, Result, Ok, Err, MatchResult, codes}
use Rattle.std.specs.Fmt.{decimal}
use Rattle.ghg_keeper.specs.declared.row.KeptRow.{KeptRow}
use Rattle.ghg_keeper.specs.Shelf.{KeepsRows, Shelf}
use Rattle.ghg_office.specs.declared.fault.OpenFault.TheVariants.{Kept}
use Rattle.ghg_office.specs.declared.reply.Reply.{Reply}
use Rattle.ghg_office.specs.Keeping.{HadRows, Lists}
use Rattle.ghg_office.specs.Office.{State, start}
use Rattle.ghg_office.specs.Replays.{replay_evaluations, replayed}
use Rattle.ghg_office.specs.Replies.{reply_text}
use Rattle.ghg_outer.specs.Tape.{Tape}
use Rattle.ghg_words.specs.declared.status.Status.{Status}
use Rattle.ghg_words.specs.declared.status.Status.TheVariants.{OutOfMemory, RowRefused, StoreFailed}
use Rattle.ghg_script.specs.Commands.{line_of}
use Rattle.ghg_session.specs.Writing.{Reports}

-- The store of this name is in use, if the keeper tells which one is.
abbrev pub IsInUse : List ℕ → Shelf → Type 0
IsInUse name shelf = IfSome shelf.name (λ used. used ≡ name)

-- The run begins with an office in this first state, when so many steps were taken. Without a store that is
-- the start. If one is named, it is the state that the rows of the store lead to, replayed, for no more steps
-- than these ask for. The shelves are that before the office was opened, and one then or later.
abbrev pub Begins : Option (List ℕ) → Shelf → Shelf → ℕ → State → ℕ → Type 0
Begins None before after steps first opened_steps = (first ≡ start) × (opened_steps ≡ steps)
Begins (Some name) before after steps first opened_steps =
    (rows : List KeptRow) × HadRows before after rows × (replayed rows ≡ Ok first)
    × (opened_steps ≤ steps + replay_evaluations start rows)

-- If a store is named, it is in use, and the rows that the keeper tells are these submissions.
abbrev pub IsKeptIn : Option (List ℕ) → Shelf → List KeptRow → Type 0
IsKeptIn None shelf accepted = ⊤
IsKeptIn (Some name) shelf accepted = IsInUse name shelf × Lists shelf accepted

-- ---- a store that gives no office

-- the line that names a kept row that is refused, by its number and with the reply to it
abbrev pub kept_line : ℕ → Reply → List ℕ
kept_line seq reply = line_of (codes "kept row " ++ decimal seq ++ codes " " ++ reply_text reply)

-- A text is due, and this status once it is written: all of it was written, or a proper prefix, and then the
-- output failed or, if it grows, memory ran out. Or memory ran out before the text was made, and nothing was
-- written.
abbrev pub ReportsMade : Tape → Tape → List ℕ → Status → Status → Type 0
ReportsMade before after text due status =
    Reports before after text due status ⊎ ((after ≡ before) × (status ≡ OutOfMemory))

-- Of these rows one is refused, the first that is. The line that names it is due, with the status of a row
-- that is refused, and the store is in use.
pub record RefusesRow (name : List ℕ) (rows : List KeptRow) (shelf' : Shelf) (output output' : Tape)
    (status : Status) : Type 0 where
  pub seq : ℕ
  pub reply : Reply
  pub refused : replayed rows ≡ Err (Kept seq reply)
  pub told : ReportsMade output output' (kept_line seq reply) RowRefused status
  pub used : IsInUse name shelf'

-- The keeper failed, or memory ran out, and nothing was written. The store in use is the one that was, or the
-- one of this name.
pub record FailsBeforeOffice (name : List ℕ) (shelf shelf' : Shelf) (output output' : Tape) (status : Status)
    : Type 0 where
  pub kind : (status ≡ StoreFailed) ⊎ (status ≡ OutOfMemory)
  pub nothing : output' ≡ output
  pub used : (shelf'.name ≡ shelf.name) ⊎ IsInUse name shelf'

-- No office was opened from the store of this name, and its rows are kept as they were. No more steps were
-- taken than they ask for.
pub record OpensNone (name : List ℕ) (shelf shelf' : Shelf) (output output' : Tape) (steps steps' : ℕ)
    (status : Status) : Type 0 where
  pub rows : List KeptRow
  pub had : HadRows shelf shelf' rows
  pub why : RefusesRow name rows shelf' output output' status
      ⊎ FailsBeforeOffice name shelf shelf' output output' status
  pub kept : KeepsRows shelf shelf'
  pub spent : steps' ≤ steps + replay_evaluations start rows

-- that, of the store that is named; without one there is always an office
abbrev pub BeginsNot : Option (List ℕ) → Shelf → Shelf → Tape → Tape → ℕ → ℕ → Status → Type 0
BeginsNot None shelf shelf' output output' steps steps' status = ⊥
BeginsNot (Some name) shelf shelf' output output' steps steps' status =
    OpensNone name shelf shelf' output output' steps steps' status

-- ---- with a store or without

-- The run begins with an office. `holds` is true of its first state, the steps that were taken when it was
-- opened, and its last state. If a store is named, the accepted submissions of the last state are kept in it
-- in the end, whatever the status.
pub record RunsOffice (store : Option (List ℕ)) (shelf shelf' : Shelf) (steps : ℕ)
    (holds : State → ℕ → State → Type 0) : Type 0 where
  pub first : State
  pub opened_steps : ℕ
  pub last : State
  pub begins : Begins store shelf shelf' steps first opened_steps
  pub does : holds first opened_steps last
  pub kept : IsKeptIn store shelf' last.accepted

-- ---- opening the office

-- there is an office, and nothing was written; or there is none
abbrev pub Opens : Option (List ℕ) → Shelf → Shelf → Tape → Tape → ℕ → ℕ → Result State Status → Type 0
Opens store shelf shelf' output output' steps steps' result = MatchResult result
    (λ office. Begins store shelf shelf' steps office steps' × (output' ≡ output))
    (BeginsNot store shelf shelf' output output' steps steps')
