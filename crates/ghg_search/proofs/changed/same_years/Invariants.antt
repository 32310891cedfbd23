use Rattle.std.proofs.Common.{◌-◌, ◌^◌, option_copied}
use Rattle.ghg_affected.specs.Equalities.{same_operand}
use Rattle.ghg_search.specs.Changed.{given_by}
use Rattle.ghg_search.proofs.Filtering.{AreFiltered}
use Rattle.ghg_search.proofs.changed.same_years.Given as goal

abbrev pub invariant-loop-year : goal.invariant-loop-year
invariant-loop-year g l =
    AreFiltered (λ y. same_operand (given_by (g.R.Records.content l.old) y (option_copied l.fn.was))
    (given_by (g.S.Records.content l.new) y (option_copied l.fn.is))) l.years l.last l.same

abbrev pub decreases-loop-year : goal.decreases-loop-year
decreases-loop-year g l = 2 ^ 32 - l.last
