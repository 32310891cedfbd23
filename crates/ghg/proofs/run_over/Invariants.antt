use Rattle.ghg.proofs.run_over.Given as goal

-- the ledger that the blank one opens
abbrev pub ghosts-run_counted : goal.ghosts-run_counted
ghosts-run_counted g a = record { name = a.blank.name; parts = a.blank.parts }
