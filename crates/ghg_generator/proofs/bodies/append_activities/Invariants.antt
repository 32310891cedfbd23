use Rattle.std.proofs.Common.{◌≡◌, ◌≤◌, ◌++◌}
use Rattle.ghg_generator.specs.Bodies.{activity_rows}
use Rattle.ghg_generator.specs.Draws.{after_draws}
use Rattle.ghg_generator.proofs.bodies.append_activities.Given as goal

-- the rows of the years that are left are still due
abbrev pub invariant-loop-left : goal.invariant-loop-left
invariant-loop-left l = record {
  written : l.body.items ++ activity_rows l.left l.digits l.number
      ≡ l.fn.body.items ++ activity_rows 31 l.digits l.fn.number;
  drawn : after_draws l.left l.number ≡ after_draws 31 l.fn.number;
  few : l.left ≤ 31;
}

abbrev pub decreases-loop-left : goal.decreases-loop-left
decreases-loop-left l = l.left
