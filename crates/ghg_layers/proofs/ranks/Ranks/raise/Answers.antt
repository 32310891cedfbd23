use Rattle.std.proofs.Common.{◌-◌, ◌∙◌, ap, subst, arith}
use Rattle.ghg_layers.specs.Grids.{IsSet, cell}
use Rattle.ghg_layers.specs.Ranks.{IsRaised}
use Rattle.ghg_layers.proofs.Owning.{high_rank}
use Rattle.ghg_layers.proofs.ranks.Ranks.raise.Goals as goal

pub returns-in_ok-set-clause-own : goal.returns-in_ok-set-clause-own
returns-in_ok-set-clause-own g c =
    let y = c.args.year - c.args.self.now.first in
    let old = c.args.self.now.own in
    let above = c.if-rank-get.true in
    let is = c.get.ensures ∙ ap (λ p. cell old p y) c.place.ensures.place in
    subst (λ o. IsRaised o y c.args.rank old c.set.new.self) c.in-Some.ensures.category
    (high_rank c.in-Some.category y c.args.rank old c.set.new.self (subst (λ p. IsSet p y c.args.rank old c.set.new.self) c.place-then-rank-get.ensures.place c.in_ok-set.ensures.set) (omega (arith, above, is)))
