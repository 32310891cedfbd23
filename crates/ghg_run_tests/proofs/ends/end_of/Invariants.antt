use Rattle.ghg_run_tests.proofs.ends.end_of.Given as goal

-- the ledger that the blank one opens
abbrev pub ghosts-end_with : goal.ghosts-end_with
ghosts-end_with g a = record { name = a.blank.name; parts = a.blank.parts }
