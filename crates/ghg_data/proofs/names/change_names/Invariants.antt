use Rattle.std.proofs.Common.{◌≡◌, ◌+◌, ◌≤◌, drop, length, vec_len, vec_capacity}
use Rattle.ghg_definitions.specs.Data.{Data, line_names}
use Rattle.ghg_data.specs.Changes.{applied}
use Rattle.ghg_data.proofs.names.change_names.Given as goal

abbrev pub invariant-loop-left : goal.invariant-loop-left
invariant-loop-left l = record {
  items : (m : Data) → l.fn.names.items ≡ line_names m → l.names.items ≡ line_names (applied m (drop l.left l.edits));
  room : vec_len l.names + l.left ≤ vec_capacity l.names;
  capacity : vec_capacity l.names ≡ vec_capacity l.fn.names;
  within : l.left ≤ length l.edits;
}

abbrev pub decreases-loop-left : goal.decreases-loop-left
decreases-loop-left l = l.left
