use Rattle.std.proofs.Common.{◌≡◌, ◌++◌, take}
use Rattle.std.specs.List.{flat_map}
use Rattle.ghg_tables.specs.Assessed.{level_key_row}
use Rattle.ghg_tables.proofs.assessments.append_levels.Given as goal

abbrev pub invariant-loop-key : goal.invariant-loop-key
invariant-loop-key l = l.out.items ≡ l.initial.out.items ++ flat_map level_key_row (take l.key-index l.keys)
