use Rattle.std.proofs.Common.{◌-◌, ◌^◌}
use Rattle.ghg_search.proofs.Changing.{other_potential}
use Rattle.ghg_search.proofs.Filtering.{AreFiltered}
use Rattle.ghg_search.proofs.changed.changed_equivalents.Given as goal

abbrev pub invariant-loop-year : goal.invariant-loop-year
invariant-loop-year g l =
    AreFiltered (λ y. other_potential (g.R.Records.content l.old) (g.S.Records.content l.new) l.name y) l.years l.last l.changed

abbrev pub decreases-loop-year : goal.decreases-loop-year
decreases-loop-year g l = 2 ^ 32 - l.last
