use Rattle.ghg_tests.proofs.layers.check_places.Given as goal

-- the ledger that the blank one opens
abbrev pub ghosts-evaluated : goal.ghosts-evaluated
ghosts-evaluated g a = record { name = a.blank.name; parts = a.blank.parts }
