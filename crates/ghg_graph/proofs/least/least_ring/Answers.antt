use Rattle.std.proofs.Common.{subst, MatchOption}
use borrow.Author.Count.{below_more}
use Rattle.ghg_graph.specs.Links.{IsOnNoRing, IsRingFrom}
use Rattle.ghg_graph.proofs.least.least_ring.Goals as goal

pub loop-line-preserved : goal.loop-line-preserved
loop-line-preserved c =
    let links = c.args.links.now in
    let line = c.loop-line.line in
    below_more (IsOnNoRing links) line c.loop-line.invariant (subst (λ found. MatchOption found (IsOnNoRing links line) (λ ring. IsRingFrom links line ring.items)) c.in_default.is c.in_ok-ring.ensures)
