use Rattle.std.proofs.Common.{◌≡◌, ◌∙◌, ◌+◌, ◌≤◌, get_or, sym, arith}
use Rattle.ghg_graph.proofs.Falling.{falls_more}
use Rattle.ghg_graph.proofs.clear.falls.Goals as goal

pub loop-line-preserved : goal.loop-line-preserved
loop-line-preserved c =
    let own : c.at.result ≡ get_or c.args.numbers.now c.loop-line.line 0 = c.at.ensures in
    let sum = c.saturating_add.ensures in
    let low : c.saturating_add.result ≤ get_or c.args.numbers.now c.loop-line.line 0 + 1 = omega (arith, own, sum) in
    falls_more c.args.links.now c.args.numbers.now c.loop-line.line c.saturating_add.result c.loop-line.invariant low
    (sym c.are_below.ensures ∙ c.if-not-are_below.false)
