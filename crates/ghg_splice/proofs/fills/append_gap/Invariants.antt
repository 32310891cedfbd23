use Rattle.std.proofs.Common.{◌≡◌, ◌≤◌, ◌++◌, ◌+◌, ◌-◌, map}
use Rattle.std.specs.List.{range_with_len}
use Rattle.ghg_splice.specs.Fills.{interpolated}
use Rattle.ghg_splice.specs.Quantities.{quantities}
use Rattle.ghg_splice.proofs.fills.append_gap.Given as goal

abbrev pub invariant-loop-step : goal.invariant-loop-step
invariant-loop-step l = record {
  filled : l.fills.items ≡ l.fn.fills.items ++ map (interpolated quantities l.before l.after) (range_with_len (l.before.year + 1) (l.step - 1));
  within : l.step - 1 ≤ l.after.year - (l.before.year + 1);
}
