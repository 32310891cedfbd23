use Rattle.std.proofs.Common.{◌-◌, ◌<◌, ◌≤◌, ◌≤ℤ◌, ◌<ℤ◌, pos}
use Rattle.ghg_interval.specs.Bounds.{unit_scale}
use Rattle.ghg_roots.specs.Decay.{parts_down}
use Rattle.ghg_roots.proofs.first_reaching.Given as goal

abbrev pub invariant-loop-low : goal.invariant-loop-low
invariant-loop-low l =
    (parts_down l.parts l.exponent (pos l.low) <ℤ pos unit_scale)
    × (pos unit_scale ≤ℤ parts_down l.parts l.exponent (pos l.high))
    × (l.low < l.high) × (l.high ≤ unit_scale)

abbrev pub decreases-loop-low : goal.decreases-loop-low
decreases-loop-low l = l.high - l.low
