use Rattle.ghg_run.proofs.commands.run_counted.Goals as goal

-- the counter begins at 0
pub returns-clause-run : goal.returns-clause-run
returns-clause-run g c = (c.run.new.steps, rw c.new-steps.ensures at c.run.ensures.run)
