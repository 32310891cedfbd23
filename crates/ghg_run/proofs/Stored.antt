-- Runs that begin with an office.
use Rattle.std.proofs.Common.{inr, ◌≡◌, ◌∙◌, ℕ, Bool, true, List, Option, Some, None, IfSome, sym, subst, refl}
use Rattle.std.specs.Option.{is_some}
use Rattle.ghg_keeper.specs.declared.row.KeptRow.{KeptRow}
use Rattle.ghg_keeper.specs.Shelf.{KeepsRows, Shelf}
use Rattle.ghg_office.specs.Keeping.{HadRows, KeepsAccepted}
use Rattle.ghg_office.specs.Office.{State}
use Rattle.ghg_outer.specs.Doors.{Register}
use Rattle.ghg_outer.specs.Tape.{Tape}
use Rattle.ghg_office.specs.Laws.{IsInForce}
use Rattle.ghg_session.specs.Replies.{protocol}
use Rattle.ghg_session.specs.Session.{Session}
use Rattle.ghg_words.specs.declared.command.Service.{Service}
use Rattle.ghg_words.specs.declared.status.Status.{Status}
use Rattle.ghg_run.specs.Run.{Compiles, ServesAll}
use Rattle.ghg_run.specs.Serve.{Serves, office_at}
use Rattle.ghg_run.proofs.Held.{sound_replies}
use Rattle.ghg_run.specs.Opening.{Begins, IsInUse, IsKeptIn, RunsOffice}

pub keeps_rows_more : (a b c : Shelf) → KeepsRows a b → KeepsRows b c → KeepsRows a c
keeps_rows_more a b c p q =
    record {
      clean = λ clean. p.clean (q.clean clean);
      told = λ t. p.told (q.told t);
      same = λ t. q.same t ∙ p.same (q.told t);
    }

-- the rows that a store had once it was attached are those that it had before
pub had_rows : (before mid after : Shelf) (rows : List KeptRow) → KeepsRows before mid
    → (before.tells → mid.clean → mid.tells) → KeepsRows mid after → HadRows mid after rows
    → HadRows before after rows
had_rows before mid after rows keeps stays later had = record {
  told = λ t. keeps.told (had.told t);
  same = λ t clean. let told = stays t (later.clean clean) in had.same told clean ∙ keeps.same told;
}

-- the name in use stayed
pub stays_in_use : (name : List ℕ) (mid after : Shelf) → after.name ≡ mid.name → IsInUse name mid → IsInUse name after
stays_in_use name mid after e h = subst (λ (n : Option (List ℕ)). IfSome n (λ used. used ≡ name)) (sym e) h

-- the run goes on with the office that was opened
pub runs_office : (store : Option (List ℕ)) (before mid after : Shelf) (steps opened_steps : ℕ) (first last : State)
    (holds : State → ℕ → State → Type 0) → Begins store before mid steps first opened_steps
    → IsKeptIn store mid first.accepted → (is_some store ≡ true → KeepsAccepted mid after last.accepted)
    → holds first opened_steps last → RunsOffice store before after steps holds
runs_office None before mid after steps opened_steps first last holds b had keeps does =
    record { first = first; opened_steps = opened_steps; last = last; begins = b; does = does; kept = tt }
runs_office (Some name) before mid after steps opened_steps first last holds b had keeps does =
    let kept = keeps refl in
    record {
      first = first;
      opened_steps = opened_steps;
      last = last;
      begins = (
        b.0,
        record { told = λ t. b.1.told (kept.told t); same = λ t clean. b.1.same t (kept.clean clean) },
        b.2,
        b.3,
      );
      does = does;
      kept = (stays_in_use name mid after kept.name had.0, kept.rows);
    }

-- ---- with a store or without

pub compiled : (store : Option (List ℕ)) (stored : Bool) (before mid after : Shelf) (steps opened_steps steps' : ℕ) (first last : State)
    (input input' output between output' : Tape) (status : Status) → stored ≡ is_some store
    → Begins store before mid steps first opened_steps × (between ≡ output) → IsKeptIn store mid first.accepted
    → (stored ≡ true → KeepsAccepted mid after last.accepted) → IsInForce first
    → Session (protocol stored) first last input input' between output' opened_steps steps' status
    → Compiles store before after input input' output output' steps steps' status
compiled store stored before mid after steps opened_steps steps' first last input input' output between output' status e opened had keeps h session =
    let same = subst (λ (b : Bool). Session (protocol b) first last input input' between output' opened_steps steps' status) e session in
    let begun = subst (λ (o : Tape). Session (protocol (is_some store)) first last input input' o output' opened_steps steps' status) opened.1 same in
    inr (runs_office store before mid after steps opened_steps first last _ opened.0 had (λ some. keeps (e ∙ some))
    (begun, sound_replies (is_some store) first h))

pub served : (service : Service) (stored : Bool) (before mid after : Shelf) (steps opened_steps steps' : ℕ) (first last : State)
    (output between : Tape) (door door' : Register Tape) (status : Status) → stored ≡ is_some service.settings.store
    → Begins service.settings.store before mid steps first opened_steps × (between ≡ output)
    → IsKeptIn service.settings.store mid first.accepted → (stored ≡ true → KeepsAccepted mid after last.accepted)
    → mid.faults ≡ before.faults
    → Serves service (office_at first opened_steps mid.faults) (office_at last steps' after.faults) door door' status
    → ServesAll service before after output between door door' steps steps' status
served service stored before mid after steps opened_steps steps' first last output between door door' status e opened had keeps counts links =
    let since = subst (λ n. Serves service (office_at first opened_steps n) (office_at last steps' after.faults) door door' status) counts links in
    inr (runs_office service.settings.store before mid after steps opened_steps first last _ opened.0 had (λ some. keeps (e ∙ some))
    (since, opened.1))
