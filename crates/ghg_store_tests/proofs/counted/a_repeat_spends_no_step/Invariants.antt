use Rattle.ghg_store_tests.proofs.counted.a_repeat_spends_no_step.Given as goal

-- the ledger that the blank one opens
abbrev pub ghosts-is_repeated : goal.ghosts-is_repeated
ghosts-is_repeated g a = record { name = a.blank.name; parts = a.blank.parts }
