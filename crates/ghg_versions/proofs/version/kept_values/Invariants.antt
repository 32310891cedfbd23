use Rattle.std.proofs.Common.{◌≡◌, take}
use Rattle.ghg_versions.proofs.version.kept_values.Given as goal

abbrev pub invariant-loop-row : goal.invariant-loop-row
invariant-loop-row g l = l.kept.items ≡ take l.row-index l.row-items
