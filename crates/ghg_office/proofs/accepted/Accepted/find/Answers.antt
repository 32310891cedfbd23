use Rattle.ghg_office.proofs.Kept.{find_says}
use Rattle.ghg_office.proofs.accepted.Accepted.find.Goals as goal

pub returns-in_err-index : goal.returns-in_err-index
returns-in_err-index c =
    let says = find_says (λ p. p.0) (λ p. p.2.now) c.args.id.now c.self.inside.bodies.entries c.get_full.result c.get_full.ensures.index c.get_full.ensures.value in
    let none = c.in_err-index.was in
    rw (c.from_residual.ensures, ← c.self.view_is) (rw none at says)

pub returns : goal.returns
returns c =
    let says = find_says (λ p. p.0) (λ p. p.2.now) c.args.id.now c.self.inside.bodies.entries c.get_full.result c.get_full.ensures.index c.get_full.ensures.value in
    let some = c.in_ok-index.was in
    rw (← c.self.view_is) (rw some at says)
