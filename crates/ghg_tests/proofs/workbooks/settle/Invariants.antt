use Rattle.ghg_tests.proofs.workbooks.settle.Given as goal

-- the ledger that the blank one opens
abbrev pub ghosts-settle_with : goal.ghosts-settle_with
ghosts-settle_with g a = record { name = a.blank.name; parts = a.blank.parts }
