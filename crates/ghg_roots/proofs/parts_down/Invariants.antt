use Rattle.std.proofs.Common.{◌≡◌, ◌≤◌, pos}
use Rattle.ghg_interval.specs.Bounds.{unit_scale}
use Rattle.ghg_roots.specs.Decay.{power_down}
use Rattle.ghg_roots.proofs.parts_down.Given as goal

abbrev pub invariant-loop : goal.invariant-loop
invariant-loop l = (pos l.power ≡ power_down (pos l.x) l.counter) × (l.power ≤ unit_scale)
