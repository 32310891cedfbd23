use Rattle.std.proofs.Common.{◌-◌, ◌^◌}
use Rattle.ghg_search.proofs.Spreads.{IsSpread}
use Rattle.ghg_search.proofs.found.Found.spread.Given as goal

abbrev pub invariant-loop-group : goal.invariant-loop-group
invariant-loop-group g l = IsSpread (g.R.Records.content l.records) l.fn.self l.next l.self

abbrev pub decreases-loop-group : goal.decreases-loop-group
decreases-loop-group g l = 2 ^ 64 - l.next
