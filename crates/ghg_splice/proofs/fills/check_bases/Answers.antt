use Rattle.std.proofs.Common.{◌∙◌, sym}
use Rattle.ghg_splice.proofs.Lists.{none_refused, zero_refused}
use Rattle.ghg_splice.proofs.fills.check_bases.Goals as goal

pub returns-in-Some : goal.returns-in-Some
returns-in-Some c = zero_refused c.args.bases.now c.in-Some.base (sym c.first_zero.ensures ∙ c.in-Some.is)

pub returns-in-None : goal.returns-in-None
returns-in-None c = none_refused c.args.bases.now (sym c.is_empty.ensures ∙ c.if-is_empty.false) (sym c.first_zero.ensures ∙ c.in-None.is)
