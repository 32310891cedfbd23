use Rattle.sqlite.specs.Held.{state}
use Rattle.ghg_keeper.proofs.Effects.{was_clean}
use Rattle.ghg_keeper.proofs.Moving.{roll_back_commits, roll_back_rests, roll_back_within}
use Rattle.ghg_keeper.proofs.moves.roll_back.Goals as goal

pub returns : goal.returns
returns g c = record {
  within = roll_back_within (state g.S.Store c.args.connection.now) (state g.S.Store c.execute.new.self) c.execute.result (was_clean c.execute.ensures.survives) c.requires c.execute.ensures.runs;
  survives = roll_back_commits (state g.S.Store c.args.connection.now) (state g.S.Store c.execute.new.self) c.requires c.execute.ensures.survives;
  rest = roll_back_rests (state g.S.Store c.args.connection.now) (state g.S.Store c.execute.new.self) c.execute.result (was_clean c.execute.ensures.survives) c.requires c.execute.ensures.runs;
  runs = c.execute.ensures.runs;
}
