use Rattle.std.proofs.Common.{◌≡◌, true, sym, ap, subst, ◌∙◌}
use Rattle.ghg_versions.specs.Desk.{compared, values_at}
use Rattle.ghg_versions.specs.Replies.{takes_memory}
use Rattle.ghg_versions.proofs.Replying.{not_reported, reported_at, table_takes, with_text}
use Rattle.ghg_versions.proofs.desk.Desk.recalculate.Goals as goal

pub returns-in_default-clause-reply : goal.returns-in_default-clause-reply
returns-in_default-clause-reply c =
    let none = rw c.deref.ensures.value at c.in_default.ensures in
    not_reported _ c.self.inside.versions.items _ c.self.view_is _ c.args.year none

pub returns-in_default-at-clause-reply : goal.returns-in_default-at-clause-reply
returns-in_default-at-clause-reply c =
    let some = rw c.deref.ensures.value at c.in-Some.ensures in
    ap (λ o. compared o (values_at c.self.inside.office.content c.args.year)) c.in_default-at.ensures
    ∙ sym (reported_at c.self.inside.office c.self.inside.versions.items _ c.self.view_is _ c.args.year c.in-Some.version.now c.self.invariant some)

pub returns-in-Ok-Some-clause-reply : goal.returns-in-Ok-Some-clause-reply
returns-in-Ok-Some-clause-reply c =
    let some = rw c.deref.ensures.value at c.in-Some.ensures in
    let text = rw c.engine.ensures at c.in-Ok-Some.ensures.text in
    with_text c.in-Some-at.reported.now _ c.in-Ok-Some.text (sym c.in-Ok-Some.field-0-is ∙ text) ∙ ap (λ o. compared o (values_at c.self.inside.office.content c.args.year)) c.in-Some-at.ensures
    ∙ sym (reported_at c.self.inside.office c.self.inside.versions.items _ c.self.view_is _ c.args.year c.in-Some.version.now c.self.invariant some)

pub returns-in-Err-clause-memory : goal.returns-in-Err-clause-memory
returns-in-Err-clause-memory c = λ e.
    let some = rw c.deref.ensures.value at c.in-Some.ensures in
    let there = rw c.engine.ensures at c.in-Err.ensures.memory in
    subst (λ r. takes_memory r ≡ true)
    (ap (λ o. compared o (values_at c.self.inside.office.content c.args.year)) c.in-Some-at.ensures
    ∙ sym (reported_at c.self.inside.office c.self.inside.versions.items _ c.self.view_is _ c.args.year c.in-Some.version.now c.self.invariant some))
    (table_takes c.in-Some-at.reported.now _ there)
