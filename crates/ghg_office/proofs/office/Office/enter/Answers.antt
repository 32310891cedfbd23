use Rattle.std.proofs.Common.{◌+◌, sym, ◌∙◌, ◌++◌, ◌∷◌, [], ap, ap₂, subst, length, List, Err}
use Rattle.std.proofs.lemmas.Result.{err_from_is_err_and}
use Rattle.ghg_definitions.specs.Data.{Data}
use Rattle.ghg_data.specs.Changes.{applied}
use Rattle.ghg_keeper.specs.declared.row.KeptRow.{KeptRow}
use Rattle.ghg_office.specs.Office.{entered_by, submitted}
use Rattle.ghg_outer.proofs.Counts.{counted_told}
use Rattle.ghg_office.proofs.Calls.{is_appended, unstored}
use Rattle.ghg_office.proofs.Entered.{accepted_answers, accepted_reply, counted, failed_answers, planned_answers}
use Rattle.ghg_office.specs.Laws.{IsRebuilt}
use Rattle.ghg_office.proofs.Reading.{spent_reading}
use Rattle.ghg_office.proofs.Rebuilt.{next_rebuilt, still_rebuilt}
use Rattle.ghg_office.proofs.office.Office.enter.Goals as goal

pub returns-in_err-proposal-clause-answer : goal.returns-in_err-proposal-clause-answer
returns-in_err-proposal-clause-answer g c =
    let p = err_from_is_err_and c.from_residual.result c.from_residual.ensures.1 in
    rw (p.1, p.2) (planned_answers _ c.args.self.now _ c.args.submission.id c.args.submission.body.now c.in_err-proposal.field-0.0 c.self.view_is c.requires.read
    c.in_err-proposal.ensures.entered
    (ap₂ (λ (m : Data) (l : List KeptRow). record { content = m; accepted = l }) c.prepare.ensures.content c.prepare.ensures.list))

pub returns-in_err-proposal-clause-steps : goal.returns-in_err-proposal-clause-steps
returns-in_err-proposal-clause-steps g c = spent_reading _ _ _ _ _ _ c.self.view_is c.requires.read c.prepare.ensures.steps

-- without the copy or the row nothing changes

pub returns-in-Err-clause-steps : goal.returns-in-Err-clause-steps
returns-in-Err-clause-steps g c = spent_reading _ _ _ _ _ _ c.self.view_is c.requires.read c.prepare.ensures.steps

pub returns-in-Err-clause-answer : goal.returns-in-Err-clause-answer
returns-in-Err-clause-answer g c = failed_answers _ c.in-Err.reply c.args.self.now _ c.in-Err.ensures.failure
    (ap₂ (λ (m : Data) (l : List KeptRow). record { content = m; accepted = l }) c.prepare.ensures.content c.prepare.ensures.list ∙ c.self.view_is)

pub returns-in-Err-clause-faults : goal.returns-in-Err-clause-faults
returns-in-Err-clause-faults g c = counted_told _ _ _ _ c.in-Err.ensures.faults

pub returns-in-Err-clause-fault : goal.returns-in-Err-clause-fault
returns-in-Err-clause-fault g c =
    let made = ap (λ s. entered_by s c.args.submission.body.now) (sym c.self.view_is) ∙ c.in_ok-proposal.ensures.entered in
    λ e. is_appended c.args.stored (submitted c.args.self.now c.args.submission.id c.args.submission.body.now) (c.in-Err.ensures.stored (ap Err e))
    (accepted_reply c.args.self.now c.args.submission.id c.args.submission.body.now _ c.requires.read made)

pub returns-in-Err-clause-untouched : goal.returns-in-Err-clause-untouched
returns-in-Err-clause-untouched g c =
    let made = ap (λ s. entered_by s c.args.submission.body.now) (sym c.self.view_is) ∙ c.in_ok-proposal.ensures.entered in
    λ none. c.in-Err.ensures.untouched (unstored c.args.stored (submitted c.args.self.now c.args.submission.id c.args.submission.body.now)
    (accepted_reply c.args.self.now c.args.submission.id c.args.submission.body.now _ c.requires.read made) none)

pub returns-in-Ok-clause-answer : goal.returns-in-Ok-clause-answer
returns-in-Ok-clause-answer g c =
    let made = ap (λ s. entered_by s c.args.submission.body.now) (sym c.self.view_is) ∙ c.in_ok-proposal.ensures.entered in
    let list = c.prepare.ensures.list ∙ ap (λ s. s.accepted) c.self.view_is in
    accepted_answers c.args.self.now c.args.submission.id c.args.submission.body.now _ _ _ _ _ c.requires.read made
    (c.accept.ensures.made ∙ ap (λ m. applied m c.in_ok-proposal.proposal.edits) c.prepare.ensures.content)
    (c.push-seq.ensures.seq ∙ ap (λ l. length l + 1) list)
    (counted _ _ _ _ _ c.prepare.ensures.content (ap (λ s. s.content) c.self.view_is) (c.cells-cells.ensures ∙ c.in_ok-proposal.ensures.proposed.count_is))
    (c.push-seq.ensures.list ∙ ap₂ (λ l b. l ++ (record { id = c.args.submission.id; body = b } ∷ [])) list c.in-Ok.ensures.copy)

pub returns-in-Ok-clause-steps : goal.returns-in-Ok-clause-steps
returns-in-Ok-clause-steps g c = spent_reading _ _ _ _ _ _ c.self.view_is c.requires.read c.prepare.ensures.steps

pub returns-in-Ok-clause-untouched : goal.returns-in-Ok-clause-untouched
returns-in-Ok-clause-untouched g c =
    let made = ap (λ s. entered_by s c.args.submission.body.now) (sym c.self.view_is) ∙ c.in_ok-proposal.ensures.entered in
    λ none. c.in-Ok.ensures.untouched (unstored c.args.stored (submitted c.args.self.now c.args.submission.id c.args.submission.body.now)
    (accepted_reply c.args.self.now c.args.submission.id c.args.submission.body.now _ c.requires.read made) none)

pub invariant_of-self : goal.invariant_of-self
invariant_of-self g c =
    still_rebuilt _ _ (ap₂ (λ (m : Data) (l : List KeptRow). record { content = m; accepted = l }) c.prepare.ensures.content c.prepare.ensures.list) c.self.invariant

pub invariant_of-self-in-Ok : goal.invariant_of-self-in-Ok
invariant_of-self-in-Ok g c =
    let made = ap (λ s. entered_by s c.args.submission.body.now) (sym c.self.view_is) ∙ c.in_ok-proposal.ensures.entered in
    let list = c.prepare.ensures.list ∙ ap (λ s. s.accepted) c.self.view_is in
    next_rebuilt c.args.self.now c.args.submission.id c.args.submission.body.now _ _ _ (subst IsRebuilt c.self.view_is c.self.invariant) c.requires.read made
    (c.accept.ensures.made ∙ ap (λ m. applied m c.in_ok-proposal.proposal.edits) c.prepare.ensures.content)
    (c.push-seq.ensures.list ∙ ap₂ (λ l b. l ++ (record { id = c.args.submission.id; body = b } ∷ [])) list c.in-Ok.ensures.copy)
