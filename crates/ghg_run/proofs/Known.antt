-- The statuses that runs end with.
use Rattle.std.proofs.Common.{◌≡◌, ◌⊎◌, inl, inr, ℕ, true, List, Option, Some, None, Ok, refl, sym, subst}
use Rattle.std.specs.Prelude.{IsErrOf}
use Rattle.ghg_keeper.specs.Shelf.{Shelf}
use Rattle.ghg_outer.specs.Tape.{Tape}
use Rattle.ghg_words.specs.declared.status.Status.{Status}
use Rattle.ghg_words.specs.declared.status.Status.TheVariants.{Done, DoorFailed, InputFailed, OutputFailed, OutOfMemory, RowRefused, SpliceRefused, StoreFailed}
use Rattle.ghg_session.specs.Writing.{Reports, StoppedWriting}
use Rattle.ghg_outer.specs.Doors.{Register}
use Rattle.ghg_session.specs.Session.{EndsBy, Protocol, Session, state_after}
use Rattle.ghg_splice.specs.declared.splicing.Spliced.{Spliced}
use Rattle.ghg_splice.specs.declared.splicing.Spliced.TheVariants.{Body, Refused}
use Rattle.ghg_splice.specs.Splice.{splice_of}
use Rattle.ghg_words.specs.declared.command.Service.{Service}
use Rattle.ghg_words.specs.declared.command.Splicing.{Splicing}
use Rattle.ghg_run.specs.Serve.{EndsServing, OfficeAt, Serves}
use Rattle.ghg_run.specs.Splicing.{ReportsSpliced, Splices, StopsInSeries, refusal_line}
use Rattle.ghg_run.specs.Opening.{BeginsNot, FailsBeforeOffice, RefusesRow, ReportsMade}

-- ---- a line that is due

-- a status that the output or want of memory may bring in place of the one that is due
stopped_as : (before after : Tape) (line : List ℕ) (status : Status) (holds : Status → Type 0)
    → StoppedWriting before after line status → holds OutputFailed → holds OutOfMemory → holds status
stopped_as before after line status holds s output memory = by s.why
  where
    by : (status ≡ OutputFailed) ⊎ ((status ≡ OutOfMemory) × (before.grows ≡ true)) → holds status
    by (inl e) = subst holds (sym e) output
    by (inr e) = subst holds (sym e.0) memory

pub reported_as : (before after : Tape) (line : List ℕ) (due status : Status) (holds : Status → Type 0)
    → Reports before after line due status → holds due → holds OutputFailed → holds OutOfMemory → holds status
reported_as before after line due status holds (inl told) h output memory = subst holds (sym told.1) h
reported_as before after line due status holds (inr s) h output memory = stopped_as before after line status holds s output memory

pub made_as : (before after : Tape) (text : List ℕ) (due status : Status) (holds : Status → Type 0)
    → ReportsMade before after text due status → holds due → holds OutputFailed → holds OutOfMemory → holds status
made_as before after text due status holds (inl told) h output memory =
    reported_as before after text due status holds told h output memory
made_as before after text due status holds (inr left) h output memory = subst holds (sym left.1) memory

-- ---- no office

pub not_opened_as : (store : Option (List ℕ)) (shelf shelf' : Shelf) (output output' : Tape) (steps steps' : ℕ) (status : Status)
    (holds : Status → Type 0) → BeginsNot store shelf shelf' output output' steps steps' status
    → holds StoreFailed → holds RowRefused → holds OutputFailed → holds OutOfMemory → holds status
not_opened_as None shelf shelf' output output' steps steps' status holds none failed refused wrote memory = absurd none
not_opened_as (Some name) shelf shelf' output output' steps steps' status holds none failed refused wrote memory = by none.why
  where
    fails : (status ≡ StoreFailed) ⊎ (status ≡ OutOfMemory) → holds status
    fails (inl is) = subst holds (sym is) failed
    fails (inr is) = subst holds (sym is) memory

    by : RefusesRow name none.rows shelf' output output' status ⊎ FailsBeforeOffice name shelf shelf' output output' status
        → holds status
    by (inl row) = made_as output output' _ RowRefused status holds row.told refused wrote memory
    by (inr fault) = fails fault.kind

-- ---- statuses that are not the door's

pub memory_no_door : OutOfMemory ≡ DoorFailed → ⊥
memory_no_door e = cc

pub done_no_door : Done ≡ DoorFailed → ⊥
done_no_door e = cc

-- a session does not end at the door
pub session_no_door : {S R : Type 0} (p : Protocol S R) (first last : S) (input input' output output' : Tape) (steps steps' : ℕ)
    (status : Status) → Session p first last input input' output output' steps steps' status → status ≡ DoorFailed → ⊥
session_no_door p first last input input' output output' steps steps' status s is =
    absurd (subst (EndsBy p (state_after p first s.answered) last input' output.grows s.took s.answered s.part) is s.ends)

-- and a serving not at the input, the output or the keeper
module _ {service : Service} {before after : OfficeAt} {door door' : Register Tape} {status : Status}
    (s : Serves service before after door door' status) where
  pub no_input : status ≡ InputFailed → ⊥
  no_input is = absurd (subst (EndsServing service door'.port s.taken s.dropped) is s.ends)

  pub no_output : status ≡ OutputFailed → ⊥
  no_output is = absurd (subst (EndsServing service door'.port s.taken s.dropped) is s.ends)

  pub no_keeper : status ≡ StoreFailed → ⊥
  no_keeper is = absurd (subst (EndsServing service door'.port s.taken s.dropped) is s.ends)

-- ---- splicing

spliced_as : (s : Spliced) (before after : Tape) (status : Status) (holds : Status → Type 0) → ReportsSpliced s before after status
    → holds Done → holds SpliceRefused → holds OutputFailed → holds OutOfMemory → holds status
spliced_as (Body text) before after status holds h done refused wrote memory = made_as before after text Done status holds h done wrote memory
spliced_as (Refused refusal) before after status holds h done refused wrote memory =
    made_as before after (refusal_line refusal) SpliceRefused status holds h refused wrote memory

pub spliced_input : (s : Spliced) (before after : Tape) (status : Status) → ReportsSpliced s before after status
    → status ≡ InputFailed → ⊥
spliced_input s before after status h =
    spliced_as s before after status (λ t. t ≡ InputFailed → ⊥) h (λ e. cc) (λ e. cc) (λ e. cc) (λ e. cc)

pub spliced_nothing : (s : Spliced) (output : Tape) → ReportsSpliced s output output OutOfMemory
spliced_nothing (Body text) output = inr (refl, refl)
spliced_nothing (Refused refusal) output = inr (refl, refl)

stops_as : (before after : Tape) (status : Status) (holds : Status → Type 0) → StopsInSeries before after status
    → holds InputFailed → holds OutOfMemory → holds status
stops_as before after status holds s failed memory = by s.why
  where
    by : (status ≡ InputFailed) ⊎ (status ≡ OutOfMemory) → holds status
    by (inl e) = subst holds (sym e) failed
    by (inr e) = subst holds (sym e) memory

pub stops_no_output : (before after : Tape) (status : Status) → StopsInSeries before after status → status ≡ OutputFailed → ⊥
stops_no_output before after status s =
    stops_as before after status (λ t. t ≡ OutputFailed → ⊥) s (λ e. cc) (λ e. cc)

pub splices_as : (splicing : Splicing) (input input' output output' : Tape) (status : Status) (holds : Status → Type 0)
    → Splices splicing input input' output output' status → holds Done → holds SpliceRefused → holds InputFailed
    → holds OutputFailed → holds OutOfMemory → holds status
splices_as splicing input input' output output' status holds (inl read) done refused failed wrote memory =
    spliced_as (splice_of splicing.method splicing.name splicing.unit read.0) output output' status holds read.2 done refused wrote memory
splices_as splicing input input' output output' status holds (inr stopped) done refused failed wrote memory =
    stops_as input input' status holds stopped.0 failed memory

-- what has a value has no error
pub no_error : {T E : Type 0} (value : T) (error : E) → IsErrOf {T = T} (Ok value) error → ⊥
no_error value error is = cc
