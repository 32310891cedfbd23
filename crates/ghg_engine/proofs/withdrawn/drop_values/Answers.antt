use Rattle.std.proofs.Common.{◌∙◌, sym}
use Rattle.ghg_engine.proofs.Dropped.{dropped_if, kept_if}
use Rattle.ghg_engine.proofs.withdrawn.drop_values.Goals as goal

pub returns-then-is_line : goal.returns-then-is_line
returns-then-is_line g c = kept_if _ _ _ (sym c.is_line.ensures ∙ c.if-is_line.true)

pub returns : goal.returns
returns g c = c.remove.ensures ∙ dropped_if _ _ _ (sym c.is_line.ensures ∙ c.if-is_line.false)
