use Rattle.sqlite.specs.Held.{state}
use Rattle.ghg_keeper.proofs.Effects.{insert_appends, refusal_stays}
use Rattle.ghg_keeper.proofs.Safe.{insert_safe}
use Rattle.ghg_keeper.proofs.statements.insert_row.Goals as goal

pub returns-clause-appends : goal.returns-clause-appends
returns-clause-appends g c t =
    insert_appends (state g.S.Store c.args.connection.now) (state g.S.Store c.put_row.new.connection) c.args.id.now c.args.body.now c.put_row.result _ c.requires c.put_row.ensures.survives
    c.put_row.ensures.runs t

pub returns-clause-refused : goal.returns-clause-refused
returns-clause-refused g c =
    refusal_stays (state g.S.Store c.args.connection.now) (state g.S.Store c.put_row.new.connection) _ _ c.put_row.result _ c.requires c.put_row.ensures.survives c.put_row.ensures.runs

pub returns-clause-safe : goal.returns-clause-safe
returns-clause-safe g c =
    insert_safe (state g.S.Store c.args.connection.now) (state g.S.Store c.put_row.new.connection) c.args.id.now c.args.body.now c.put_row.result
    c.put_row.ensures.survives c.put_row.ensures.runs
    (λ live db. g.met.S.Store.settled c.args.connection.now.store db live) (λ live db. g.met.S.Store.settled c.put_row.new.connection.store db live)
