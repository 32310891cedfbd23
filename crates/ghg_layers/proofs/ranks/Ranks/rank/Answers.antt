use Rattle.std.proofs.Common.{arith}
use Rattle.ghg_graph.specs.declared.slots.Scope.TheVariants as scope
use Rattle.ghg_layers.proofs.Looking.{sum_small}
use Rattle.ghg_layers.proofs.ranks.Ranks.rank.Goals as goal

pub overflow_add-result-in-Total : goal.overflow_add-result-in-Total
overflow_add-result-in-Total c =
    let low = sum_small c.args.self.now c.requires.ranks (scope.Under c.in-Total.top) c.in-Total.year 9223372036854775808 c.requires.ranks.own_small in
    let is = c.sum_rank.ensures in omega (arith, low, is)

pub overflow_add-result-in-Gross : goal.overflow_add-result-in-Gross
overflow_add-result-in-Gross c =
    let low = sum_small c.args.self.now c.requires.ranks scope.Gross c.in-Gross.year 9223372036854775808 c.requires.ranks.own_small in
    let is = c.sum_rank-in-Gross.ensures in omega (arith, low, is)
