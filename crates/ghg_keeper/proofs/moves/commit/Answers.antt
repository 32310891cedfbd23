use Rattle.sqlite.specs.Held.{state}
use Rattle.ghg_keeper.proofs.Effects.{was_clean}
use Rattle.ghg_keeper.proofs.Moving.{commit_commits, commit_survives, commit_within}
use Rattle.ghg_keeper.proofs.moves.commit.Goals as goal

pub returns-clause-survives : goal.returns-clause-survives
returns-clause-survives g c = commit_survives (state g.S.Store c.args.connection.now) (state g.S.Store c.execute.new.self) c.requires c.execute.ensures.survives

pub returns-clause-committed : goal.returns-clause-committed
returns-clause-committed g c =
    commit_commits (state g.S.Store c.args.connection.now) (state g.S.Store c.execute.new.self) c.execute.result c.execute.ensures.runs

pub returns-clause-refused : goal.returns-clause-refused
returns-clause-refused g c =
    commit_within (state g.S.Store c.args.connection.now) (state g.S.Store c.execute.new.self) c.execute.result (was_clean c.execute.ensures.survives) c.requires c.execute.ensures.runs
