use Rattle.std.proofs.Common.{◌≡◌, ◌++◌, take}
use Rattle.std.specs.List.{flat_map}
use Rattle.ghg_tables.specs.Assessed.{trend_key_row}
use Rattle.ghg_tables.proofs.assessments.append_trends.Given as goal

abbrev pub invariant-loop-key : goal.invariant-loop-key
invariant-loop-key l = l.out.items ≡ l.initial.out.items ++ flat_map (trend_key_row l.denominator) (take l.key-index l.keys)
