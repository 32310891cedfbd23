use Rattle.sqlite.specs.Held.{state}
use Rattle.ghg_keeper.proofs.Effects.{was_clean}
use Rattle.ghg_keeper.proofs.Texts.{create_parses}
use Rattle.ghg_keeper.proofs.Making.{create_ours, made_keeps, made_survives, made_told, ran_rests}
use Rattle.ghg_keeper.proofs.moves.make_first.Goals as goal

pub returns : goal.returns
returns g c =
    let old = state g.S.Store c.args.connection.now in
    let new = state g.S.Store c.execute.new.self in
    let clean = was_clean c.execute.ensures.survives in record {
      keeps = made_keeps old new _ c.execute.result create_parses create_ours c.requires clean c.execute.ensures.runs;
      survives = made_survives old new _ create_parses create_ours c.execute.ensures.survives;
      told = made_told old new _ c.execute.result create_parses create_ours c.execute.ensures.runs;
      rest = ran_rests old new _ c.execute.result create_parses c.requires clean c.execute.ensures.runs;
      runs = c.execute.ensures.runs;
    }
