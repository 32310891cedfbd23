use Rattle.std.proofs.Common.{not, ap, ◌∙◌}
use Rattle.ghg_data.specs.Brackets.{half_lives}
use Rattle.ghg_data.proofs.HalfLives.{had, lent_has}
use Rattle.ghg_data.proofs.brackets.Brackets.keep_one.Goals as goal

pub returns-else-is_none-clause-named : goal.returns-else-is_none-clause-named
returns-else-is_none-clause-named c =
    let brackets = c.args.self.now in
    let half_life = c.args.half_life in
    had (half_lives brackets) half_life (lent_has half_life brackets.kept.items c.find.result c.find.ensures.kept (c.is_none.ensures ∙ ap not c.if-is_none.false))
