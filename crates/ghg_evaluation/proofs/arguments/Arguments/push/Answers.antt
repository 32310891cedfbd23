use Rattle.std.proofs.Common.{refl, rules, subst}
use Rattle.ghg_evaluation.specs.Arguments.{IsTaken}
use Rattle.ghg_evaluation.proofs.Held.{one_beyond, one_taken}
use Rattle.ghg_evaluation.proofs.arguments.Arguments.push.Goals as goal

pub returns-in_ok-push-in-Input-clause-held : goal.returns-in_ok-push-in-Input-clause-held
returns-in_ok-push-in-Input-clause-held c outcomes x held taken =
    let is = subst (IsTaken x) c.in-Input.is taken in
    one_taken outcomes c.args.self.now _ x held c.in-Input.input is.0 is.1 c.in_ok-push-in-Input.ensures.items refl (search rules)

pub returns-in-Beyond-clause-held : goal.returns-in-Beyond-clause-held
returns-in-Beyond-clause-held c outcomes x held taken =
    one_beyond outcomes c.args.self.now _ x held (subst (IsTaken x) c.in-Beyond.is taken) refl refl refl
