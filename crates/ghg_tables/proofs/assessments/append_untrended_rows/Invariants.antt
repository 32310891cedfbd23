use Rattle.std.proofs.Common.{◌≡◌, ◌++◌, take}
use Rattle.std.specs.List.{flat_map}
use Rattle.ghg_tables.specs.Analyses.{untrended_row}
use Rattle.ghg_tables.proofs.assessments.append_untrended_rows.Given as goal

abbrev pub invariant-loop-pair : goal.invariant-loop-pair
invariant-loop-pair l = l.out.items ≡ l.initial.out.items ++ flat_map untrended_row (take l.pair-index l.rows)
