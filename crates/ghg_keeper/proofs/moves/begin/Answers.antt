use Rattle.sqlite.specs.Held.{state}
use Rattle.ghg_keeper.proofs.Effects.{was_clean}
use Rattle.ghg_keeper.proofs.Moving.{begin_commits, begin_moving, begin_rests, begin_within}
use Rattle.ghg_keeper.proofs.moves.begin.Goals as goal

pub returns-clause-within : goal.returns-clause-within
returns-clause-within g c =
    begin_within (state g.S.Store c.args.connection.now) (state g.S.Store c.execute.new.self) c.execute.result (was_clean c.execute.ensures.survives) c.requires c.execute.ensures.runs

pub returns-clause-begun : goal.returns-clause-begun
returns-clause-begun g c =
    begin_moving (state g.S.Store c.args.connection.now) (state g.S.Store c.execute.new.self) c.execute.result (was_clean c.execute.ensures.survives) c.requires c.execute.ensures.runs

pub returns-clause-survives : goal.returns-clause-survives
returns-clause-survives g c = begin_commits (state g.S.Store c.args.connection.now) (state g.S.Store c.execute.new.self) c.execute.ensures.survives

pub returns-clause-refused : goal.returns-clause-refused
returns-clause-refused g c =
    begin_rests (state g.S.Store c.args.connection.now) (state g.S.Store c.execute.new.self) c.execute.result (was_clean c.execute.ensures.survives) c.requires c.execute.ensures.runs
