use Rattle.std.proofs.Common.{sym, subst, ◌∙◌}
use Rattle.ghg_office.specs.Office.{IsRead}
use Rattle.ghg_versions.proofs.Keeping.{answered_keeps}
use Rattle.ghg_versions.proofs.Replying.{memory_is, read_takes}
use Rattle.ghg_versions.proofs.desk.Desk.submit.Goals as goal

pub invariant_of-self : goal.invariant_of-self
invariant_of-self g c =
    answered_keeps c.self.inside.office c.args.id.now c.args.body.now c.self.inside.versions.items c.self.invariant
    c.submit-reply.new.self c.submit-reply.result c.submit-reply.ensures.answer

pub returns-clause-memory : goal.returns-clause-memory
returns-clause-memory g c = λ e.
    let read = c.submit-reply.ensures.memory (memory_is _ (sym c.office_reply.ensures ∙ e)) in
    read_takes _ _ _ (subst (λ s. IsRead s.office c.args.id.now c.args.body.now) c.self.view_is read)
