use Rattle.std.proofs.Common.{sym, lit<}
use Rattle.ghg_generator.proofs.Left.{draws_left}
use Rattle.ghg_generator.proofs.bodies.line_body.Goals as goal

pub returns-clause-number : goal.returns-clause-number
returns-clause-number c =
    rw (c.in_ok-append_activities.ensures.number, c.draw.ensures.number) (sym (draws_left 32 c.args.number.now (lit< tt)))
