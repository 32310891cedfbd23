use Rattle.std.proofs.Common.{◌≡◌, ◌∙◌, inl, ap, sym, refl, Some}
use Rattle.ghg_office.proofs.InForce.{states_stay}
use Rattle.ghg_outer.specs.Tape.{Tape}
use Rattle.ghg_outer.proofs.Counts.{count_stays, counted_none, counted_on, counted_told}
use Rattle.ghg_review.proofs.Reviews.{review_no_keeper}
use Rattle.ghg_words.specs.declared.status.Status.TheVariants.{DoorFailed, InputFailed, StoreFailed}
use Rattle.ghg_run.proofs.Known.{made_as, no_error, no_input, no_output, not_opened_as, reported_as, session_no_door, splices_as}
use Rattle.ghg_run.proofs.Reviewed.{sound_reviews}
use Rattle.ghg_run.proofs.Stored.{compiled, served}
use Rattle.ghg_run.specs.Reviewing.{first_desk}
use Rattle.ghg_run.proofs.commands.run.Goals as goal

pub returns-in-None-clause-run : goal.returns-in-None-clause-run
returns-in-None-clause-run g c =
    let none = sym c.read_command.ensures.command ∙ c.in-None.is in
    let told = c.report.ensures.reported in
    rw none (
      c.report.result,
      c.code-in-None.ensures,
      (told, refl),
      record {
        input_counted = counted_none _ _ (reported_as _ _ _ _ _ (λ s. s ≡ InputFailed → ⊥) told (λ e. cc) (λ e. cc) (λ e. cc));
        output_counted = c.report.ensures.counted (λ e. cc);
        keeper_counted = λ _. counted_none _ _ (reported_as _ _ _ _ _ (λ s. s ≡ StoreFailed → ⊥) told (λ e. cc) (λ e. cc) (λ e. cc));
        door_counted = counted_none _ _ (reported_as _ _ _ _ _ (λ s. s ≡ DoorFailed → ⊥) told (λ e. cc) (λ e. cc) (λ e. cc));
      },
    )

-- ---- compile

pub returns-in-Ok-clause-run : goal.returns-in-Ok-clause-run
returns-in-Ok-clause-run g c =
    let command = sym c.read_command.ensures.command ∙ c.in-Some-Compile.is ∙ ap Some c.in-Some-Compile.field-0-is in
    let opened = c.in-Ok.ensures.opened in
    let script = c.answer_script.ensures in
    rw command (
      c.answer_script.result,
      c.code.ensures,
      compiled c.in-Some-Compile.settings.store c.environment-environment.result.stored _ (g.K.Keeper.shelf c.open_office.new.keeper) _ _ _ _
          c.in-Ok.office c.answer_script.new.office _ _ _ _ _ _ c.environment-environment.ensures.stored opened c.in-Ok.ensures.kept
          script.kept c.in-Ok.ensures.in_force script.session.0,
      record {
        input_counted = script.input;
        output_counted = counted_on _ _ _ _ (ap (λ (o : Tape). o.faults) opened.1) script.output;
        keeper_counted = λ _. counted_on _ _ _ _ (count_stays _ _ _ (no_error _ _) c.in-Ok.ensures.counted) script.counted;
        door_counted = counted_none _ _ (session_no_door _ _ _ _ _ _ _ _ _ _ script.session.0);
      },
    )

pub returns-in-Err-clause-run : goal.returns-in-Err-clause-run
returns-in-Err-clause-run g c =
    let command = sym c.read_command.ensures.command ∙ c.in-Some-Compile.is ∙ ap Some c.in-Some-Compile.field-0-is in
    let none = c.in-Err.ensures.opened in
    rw command (
      c.in-Err.status,
      c.code-in-Err.ensures,
      inl (none, refl),
      record {
        input_counted = counted_none _ _ (not_opened_as _ _ _ _ _ _ _ _ (λ s. s ≡ InputFailed → ⊥) none (λ e. cc) (λ e. cc) (λ e. cc) (λ e. cc));
        output_counted = counted_told _ _ _ _ c.in-Err.ensures.output;
        keeper_counted = λ _. counted_told _ _ _ _ c.in-Err.ensures.counted;
        door_counted = counted_none _ _ (not_opened_as _ _ _ _ _ _ _ _ (λ s. s ≡ DoorFailed → ⊥) none (λ e. cc) (λ e. cc) (λ e. cc) (λ e. cc));
      },
    )

-- ---- serve

pub returns-in-Ok-open_office-clause-run : goal.returns-in-Ok-open_office-clause-run
returns-in-Ok-open_office-clause-run g c =
    let command = sym c.read_command.ensures.command ∙ c.in-Some-Serve.is ∙ ap Some c.in-Some-Serve.field-0-is in
    let opened = c.in-Ok-open_office.ensures.opened in
    let links = c.serve_office.ensures.links in
    rw command (
      c.serve_office.result,
      c.code-in-Ok-open_office.ensures,
      served c.in-Some-Serve.service c.environment-environment-in-Some-Serve.result.stored _
          (g.K.Keeper.shelf c.open_office-in-Some-Serve.new.keeper) _ _ _ _ c.in-Ok-open_office.office links.0 _ _ _ _ _
          c.environment-environment-in-Some-Serve.ensures.stored opened c.in-Ok-open_office.ensures.kept links.2
          (count_stays _ _ _ (no_error _ _) c.in-Ok-open_office.ensures.counted) links.1,
      record {
        input_counted = counted_none _ _ (no_input links.1);
        output_counted = counted_on _ _ _ _ (ap (λ (o : Tape). o.faults) opened.1) (counted_none _ _ (no_output links.1));
        keeper_counted = λ e. cc;
        door_counted = c.serve_office.ensures.counted;
      },
    )

pub returns-in-Err-open_office-clause-run : goal.returns-in-Err-open_office-clause-run
returns-in-Err-open_office-clause-run g c =
    let command = sym c.read_command.ensures.command ∙ c.in-Some-Serve.is ∙ ap Some c.in-Some-Serve.field-0-is in
    let none = c.in-Err-open_office.ensures.opened in
    rw command (
      c.in-Err-open_office.status,
      c.code-in-Err-open_office.ensures,
      inl (none, refl, counted_told _ _ _ _ c.in-Err-open_office.ensures.counted),
      record {
        input_counted = counted_none _ _ (not_opened_as _ _ _ _ _ _ _ _ (λ s. s ≡ InputFailed → ⊥) none (λ e. cc) (λ e. cc) (λ e. cc) (λ e. cc));
        output_counted = counted_told _ _ _ _ c.in-Err-open_office.ensures.output;
        keeper_counted = λ e. cc;
        door_counted = counted_none _ _ (not_opened_as _ _ _ _ _ _ _ _ (λ s. s ≡ DoorFailed → ⊥) none (λ e. cc) (λ e. cc) (λ e. cc) (λ e. cc));
      },
    )

-- ---- generate and splice

pub returns-in-Some-Generate-clause-run : goal.returns-in-Some-Generate-clause-run
returns-in-Some-Generate-clause-run g c =
    let command = sym c.read_command.ensures.command ∙ c.in-Some-Generate.is ∙ ap Some c.in-Some-Generate.field-0-is in
    let made = c.generate.ensures.run.0 in
    rw command (
      c.generate.result,
      c.code-in-Some-Generate.ensures,
      c.generate.ensures.run,
      record {
        input_counted = counted_none _ _ (made_as _ _ _ _ _ (λ s. s ≡ InputFailed → ⊥) made (λ e. cc) (λ e. cc) (λ e. cc));
        output_counted = c.generate.ensures.counted;
        keeper_counted = λ _. counted_none _ _ (made_as _ _ _ _ _ (λ s. s ≡ StoreFailed → ⊥) made (λ e. cc) (λ e. cc) (λ e. cc));
        door_counted = counted_none _ _ (made_as _ _ _ _ _ (λ s. s ≡ DoorFailed → ⊥) made (λ e. cc) (λ e. cc) (λ e. cc));
      },
    )

pub returns-in-Some-Splice-clause-run : goal.returns-in-Some-Splice-clause-run
returns-in-Some-Splice-clause-run g c =
    let command = sym c.read_command.ensures.command ∙ c.in-Some-Splice.is ∙ ap Some c.in-Some-Splice.field-0-is in
    let done = c.splice.ensures.run in
    rw command (
      c.splice.result,
      c.code-in-Some-Splice.ensures,
      (done, refl),
      record {
        input_counted = c.splice.ensures.input;
        output_counted = c.splice.ensures.output;
        keeper_counted = λ _. counted_none _ _ (splices_as _ _ _ _ _ _ (λ s. s ≡ StoreFailed → ⊥) done (λ e. cc) (λ e. cc) (λ e. cc) (λ e. cc) (λ e. cc));
        door_counted = counted_none _ _ (splices_as _ _ _ _ _ _ (λ s. s ≡ DoorFailed → ⊥) done (λ e. cc) (λ e. cc) (λ e. cc) (λ e. cc) (λ e. cc));
      },
    )

-- ---- review

pub returns-in-Some-Review-clause-run : goal.returns-in-Some-Review-clause-run
returns-in-Some-Review-clause-run g c =
    let command = sym c.read_command.ensures.command ∙ c.in-Some-Review.is ∙ ap Some c.in-Some-Review.field-0-is in
    let script = rw (c.new-desk.ensures, c.new.ensures) at c.answer_review.ensures.session in
    rw command (
      c.answer_review.result,
      c.code-in-Some-Review.ensures,
      (c.answer_review.new.desk, script, sound_reviews first_desk states_stay.first),
      record {
        input_counted = c.answer_review.ensures.input;
        output_counted = c.answer_review.ensures.output;
        keeper_counted = λ _. counted_none _ _ (review_no_keeper _ _ _ _ _ _ _ _ _ script);
        door_counted = counted_none _ _ (session_no_door _ _ _ _ _ _ _ _ _ _ script);
      },
    )
