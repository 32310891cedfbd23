use Rattle.ghg_store_tests.proofs.versions.check.Given as goal

-- the ledger that the blank one opens
abbrev pub ghosts-both : goal.ghosts-both
ghosts-both g a = record { name = a.blank.name; parts = a.blank.parts }
