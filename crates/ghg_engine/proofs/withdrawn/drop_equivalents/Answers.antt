use Rattle.std.proofs.Common.{◌∙◌, sym}
use Rattle.ghg_engine.proofs.Dropped.{dropped_if, kept_if}
use Rattle.ghg_engine.proofs.withdrawn.drop_equivalents.Goals as goal

pub returns-then-emits : goal.returns-then-emits
returns-then-emits g c = kept_if _ _ _ (sym c.emits.ensures ∙ c.if-emits.true)

pub returns : goal.returns
returns g c = c.remove.ensures ∙ dropped_if _ _ _ (sym c.emits.ensures ∙ c.if-emits.false)
