use Rattle.std.proofs.Common.{◌≡◌, ℕ, true, not, ◌&&◌, drop, take}
use Rattle.std.specs.List.{AllByRecursion, list_any}
use Rattle.ghg_data.specs.YearSet.{has_year}
use Rattle.ghg_units.specs.Parameter.{is_parameter}
use Rattle.ghg_search.proofs.Changing.{other_at}
use Rattle.ghg_search.proofs.changed.changed_lines.Given as goal

abbrev pub invariant-loop-param : goal.invariant-loop-param
invariant-loop-param g l =
    AllByRecursion (λ q. is_parameter q.name.now ≡ true) (drop l.param-index l.param-items)
    × ((y : ℕ) → has_year l.same y ≡ has_year l.years y
    && not (list_any (λ q. other_at (g.R.Records.content l.old) (g.S.Records.content l.new) l.name y q.name.now) (take l.param-index l.param-items)))
