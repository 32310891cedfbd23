use Rattle.std.proofs.Common.{◌∙◌, inl, inr, refl}
use Rattle.ghg_run.proofs.commands.generate.Goals as goal

pub returns-in-Ok-clause-run : goal.returns-in-Ok-clause-run
returns-in-Ok-clause-run g c =
    let text = c.deref.ensures.value ∙ c.in-Ok.ensures.text in
    (inl (rw text at c.report.ensures.reported), c.generate.ensures.steps)

pub returns-in-Ok-clause-counted : goal.returns-in-Ok-clause-counted
returns-in-Ok-clause-counted g c = c.report.ensures.counted (λ e. cc)

pub returns-in-Err-clause-run : goal.returns-in-Err-clause-run
returns-in-Err-clause-run g c = (inr (refl, refl), c.generate.ensures.steps)
