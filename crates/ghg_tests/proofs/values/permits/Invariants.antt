use Rattle.ghg_tests.proofs.values.permits.Given as goal

-- the ledger is the one of its blank
abbrev pub ghosts-permits_of : goal.ghosts-permits_of
ghosts-permits_of a = record { name = a.blank.name; parts = a.blank.parts }
