use Rattle.std.proofs.Common.{Some, sym, ap, ◌∙◌, if◌then◌else◌}
use Rattle.ghg_definitions.specs.Rules.{lesser_place}
use Rattle.ghg_data.specs.Faults.{is_fault}
use Rattle.ghg_data.proofs.Considered.{is_least, stays_least}
use Rattle.ghg_data.proofs.bindings.consider.Goals as goal

pub returns-then-comes_before : goal.returns-then-comes_before
returns-then-comes_before c = stays_least c.args.place.now c.args.least.now (sym c.comes_before.ensures ∙ c.if-comes_before.true) (is_fault c.args.draft.now c.args.place.now)

pub returns-then-is_fault : goal.returns-then-is_fault
returns-then-is_fault c =
    let p = c.args.place.now in
    let least = c.args.least.now in
    ap Some (is_least p least (sym c.comes_before.ensures ∙ c.if-comes_before.false))
    ∙ ap (λ b. if b then Some (lesser_place p least) else least) (sym (sym c.is_fault.ensures ∙ c.if-is_fault.true))
