use Rattle.ghg_store_tests.proofs.unkept.check.Given as goal

-- the ledger that the blank one opens
abbrev pub ghosts-check_with : goal.ghosts-check_with
ghosts-check_with g a = record { name = a.blank.name; parts = a.blank.parts }
