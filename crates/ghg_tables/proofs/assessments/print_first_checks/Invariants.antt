use Rattle.std.proofs.Common.{◌≡◌, ◌++◌, take, codes}
use Rattle.std.specs.List.{flat_map}
use Rattle.ghg_tables.specs.Analyses.{first_check_row}
use Rattle.ghg_tables.proofs.assessments.print_first_checks.Given as goal

abbrev pub invariant-loop-pair : goal.invariant-loop-pair
invariant-loop-pair g l = l.out.items ≡ codes "category,gas,previous,value,change,flag\n" ++ flat_map first_check_row (take l.pair-index l.pair-items)
