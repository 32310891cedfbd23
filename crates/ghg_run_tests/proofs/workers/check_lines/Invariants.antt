use Rattle.ghg_run_tests.proofs.workers.check_lines.Given as goal

-- the ledger that the blank one opens
abbrev pub ghosts-counts_with : goal.ghosts-counts_with
ghosts-counts_with g a = record { name = a.blank.name; parts = a.blank.parts }
