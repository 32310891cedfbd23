use Rattle.std.proofs.Common.{◌∙◌, ap, get_or, refl, arith}
use Rattle.ghg_layers.proofs.Padding.{padded, set_in}
use Rattle.ghg_layers.proofs.grid.set_at.Goals as goal

pub loop-ranks-preserved : goal.loop-ranks-preserved
loop-ranks-preserved c = λ z. ap (λ xs. get_or xs z 0) c.in_ok-push.ensures.items ∙ padded 0 c.loop-ranks.ranks.items z ∙ c.loop-ranks.invariant z

pub returns : goal.returns
returns c = set_in _ c.loop-ranks.ranks.items _ c.args.year c.args.rank c.loop-ranks.invariant (let t = c.loop-ranks-test.false in let l = c.len.ensures in grind (arith, t, l, c.loop-ranks.ranks.ok)) refl
