use Rattle.std.proofs.Common.{◌≤◌, reverse, subst}
use Rattle.ghg_graph.specs.Walks.{IsWalk}
use Rattle.ghg_graph.proofs.Walking.{walked_order}
use Rattle.ghg_graph.proofs.walk.order.Goals as goal

pub returns : goal.returns
returns c =
    let end = c.loop-line.invariant in
    walked_order c.args.links.now c.loop-line.walk c.loop-line.line (subst (λ path. IsWalk c.args.links.now c.loop-line.walk (reverse path)) end.path end.walk) (subst (λ n. n ≤ c.loop-line.line) c.len-line-end.ensures c.loop-line-test.false) end.placed
