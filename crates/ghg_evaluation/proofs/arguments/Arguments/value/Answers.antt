use Rattle.std.proofs.Common.{◌∙◌, ap, Ok}
use Rattle.ghg_cell.specs.Values.{equation_value}
use Rattle.ghg_evaluation.proofs.Held.{held_beyond, held_blank, held_value}
use Rattle.ghg_evaluation.proofs.arguments.Arguments.value.Goals as goal

pub returns-then-self : goal.returns-then-self
returns-then-self c outcomes held = c.equation_value.ensures ∙ ap (equation_value c.args.id) c.deref.ensures.value ∙ held_value c.args.id outcomes c.args.self.now held c.if-self.true

pub returns-then-self-2 : goal.returns-then-self-2
returns-then-self-2 c outcomes held = ap (λ x. Ok x) c.blank.ensures ∙ held_blank c.args.id outcomes c.args.self.now held c.if-self-2.true

pub returns-else-self-2 : goal.returns-else-self-2
returns-else-self-2 c outcomes held = held_beyond c.args.id outcomes c.args.self.now held c.if-self-2.false c.if-self.false
