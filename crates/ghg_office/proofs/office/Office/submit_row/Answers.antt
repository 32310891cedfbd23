use Rattle.std.proofs.Common.{◌+◌, ◌∙◌, ◌++◌, ◌∷◌, [], sym, ap, ap₂, subst, length, List}
use Rattle.std.proofs.lemmas.Result.{err_from_is_err_and}
use Rattle.ghg_definitions.specs.Data.{Data}
use Rattle.ghg_data.specs.Changes.{applied}
use Rattle.ghg_keeper.specs.declared.row.KeptRow.{KeptRow}
use Rattle.ghg_office.specs.Office.{entered_by}
use Rattle.ghg_office.proofs.Entered.{accepted_answers, counted, planned_answers}
use Rattle.ghg_office.specs.Laws.{IsRebuilt}
use Rattle.ghg_office.proofs.Reading.{spent_reading}
use Rattle.ghg_office.proofs.Rebuilt.{next_rebuilt, still_rebuilt}
use Rattle.ghg_office.proofs.office.Office.submit_row.Goals as goal

pub returns-in_err-proposal-clause-answer : goal.returns-in_err-proposal-clause-answer
returns-in_err-proposal-clause-answer g c =
    let p = err_from_is_err_and c.from_residual-in_err-proposal.result c.from_residual-in_err-proposal.ensures.1 in
    let read = rw (c.as_slice.ensures, c.as_slice-2.ensures) at c.in_ok-id.ensures.new.1 in
    rw (p.1, p.2) (planned_answers _ c.args.self.now _ c.args.row.id c.args.row.body c.in_err-proposal.field-0.0 c.self.view_is read
    (rw c.as_slice-3.ensures at c.in_err-proposal.ensures.entered)
    (ap₂ (λ (m : Data) (l : List KeptRow). record { content = m; accepted = l }) c.prepare.ensures.content c.prepare.ensures.list))

pub returns-in_err-proposal-clause-steps : goal.returns-in_err-proposal-clause-steps
returns-in_err-proposal-clause-steps g c =
    let read = rw (c.as_slice.ensures, c.as_slice-2.ensures) at c.in_ok-id.ensures.new.1 in
    spent_reading _ _ _ _ _ _ c.self.view_is read (rw c.as_slice-3.ensures at c.prepare.ensures.steps)

pub returns-clause-answer : goal.returns-clause-answer
returns-clause-answer g c =
    let read = rw (c.as_slice.ensures, c.as_slice-2.ensures) at c.in_ok-id.ensures.new.1 in
    let id = c.in_ok-id.ensures.new.0 ∙ c.as_slice.ensures in
    let planned = rw c.as_slice-3.ensures at c.in_ok-proposal.ensures.entered in
    let made = ap (λ s. entered_by s c.args.row.body) (sym c.self.view_is) ∙ planned in
    let list = c.prepare.ensures.list ∙ ap (λ s. s.accepted) c.self.view_is in
    accepted_answers c.args.self.now c.args.row.id c.args.row.body _ _ _ _ _ read made
    (c.accept.ensures.made ∙ ap (λ m. applied m c.in_ok-proposal.proposal.edits) c.prepare.ensures.content)
    (c.push-seq.ensures.seq ∙ ap (λ l. length l + 1) list)
    (counted _ _ _ _ _ c.prepare.ensures.content (ap (λ s. s.content) c.self.view_is) (c.cells-cells.ensures ∙ c.in_ok-proposal.ensures.proposed.count_is))
    (c.push-seq.ensures.list ∙ ap₂ (λ l i. l ++ (record { id = i; body = c.args.row.body } ∷ [])) list id)

pub returns-clause-steps : goal.returns-clause-steps
returns-clause-steps g c =
    let read = rw (c.as_slice.ensures, c.as_slice-2.ensures) at c.in_ok-id.ensures.new.1 in
    spent_reading _ _ _ _ _ _ c.self.view_is read (rw c.as_slice-3.ensures at c.prepare.ensures.steps)

pub invariant_of-self : goal.invariant_of-self
invariant_of-self g c =
    still_rebuilt _ _ (ap₂ (λ (m : Data) (l : List KeptRow). record { content = m; accepted = l }) c.prepare.ensures.content c.prepare.ensures.list) c.self.invariant

pub invariant_of-self-2 : goal.invariant_of-self-2
invariant_of-self-2 g c =
    let read = rw (c.as_slice.ensures, c.as_slice-2.ensures) at c.in_ok-id.ensures.new.1 in
    let id = c.in_ok-id.ensures.new.0 ∙ c.as_slice.ensures in
    let planned = rw c.as_slice-3.ensures at c.in_ok-proposal.ensures.entered in
    let made = ap (λ s. entered_by s c.args.row.body) (sym c.self.view_is) ∙ planned in
    let list = c.prepare.ensures.list ∙ ap (λ s. s.accepted) c.self.view_is in
    next_rebuilt c.args.self.now c.args.row.id c.args.row.body _ _ _ (subst IsRebuilt c.self.view_is c.self.invariant) read made
    (c.accept.ensures.made ∙ ap (λ m. applied m c.in_ok-proposal.proposal.edits) c.prepare.ensures.content)
    (c.push-seq.ensures.list ∙ ap₂ (λ l i. l ++ (record { id = i; body = c.args.row.body } ∷ [])) list id)
