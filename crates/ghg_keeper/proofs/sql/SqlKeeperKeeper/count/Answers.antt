use Rattle.ghg_keeper.specs.Databases.{database}
use Rattle.sqlite.specs.Held.{state}
use Rattle.ghg_keeper.proofs.Shelves.{shelf_count, shelf_keeps}
use Rattle.std.proofs.Common.{inl, inr, refl}
use Rattle.ghg_keeper.proofs.sql.SqlKeeperKeeper.count.Goals as goal

pub returns-in-Err-clause-cause : goal.returns-in-Err-clause-cause
returns-in-Err-clause-cause g c = rw (c.told-in-Err.ensures.answer, c.told-in-Err.ensures.same) (inr (c.in-Err.error, inl c.in-Err.ensures.reads, refl))

pub returns-in-Ok-clause-count : goal.returns-in-Ok-clause-count
returns-in-Ok-clause-count g c = rw (c.told.ensures.answer, c.told.ensures.same, c.told.ensures.attached)
    (shelf_count c.args.self.now.is_attached (database g.S.Store c.args.self.now) (state g.S.Store c.count_rows.new.connection) _ c.kept_count.result c.if-not-self.false c.count_rows.ensures.stays c.in-Ok.ensures.count c.kept_count.ensures.count)

pub returns-in-Ok-clause-keeps : goal.returns-in-Ok-clause-keeps
returns-in-Ok-clause-keeps g c = rw (c.told.ensures.same, c.told.ensures.attached)
    (shelf_keeps c.args.self.now.is_attached (database g.S.Store c.args.self.now) (state g.S.Store c.count_rows.new.connection) _ _ c.if-not-self.false c.count_rows.ensures.safe.clean c.count_rows.ensures.stays)

pub returns-in-Err-clause-keeps : goal.returns-in-Err-clause-keeps
returns-in-Err-clause-keeps g c = rw (c.told-in-Err.ensures.same, c.told-in-Err.ensures.attached)
    (shelf_keeps c.args.self.now.is_attached (database g.S.Store c.args.self.now) (state g.S.Store c.count_rows.new.connection) _ _ c.if-not-self.false c.count_rows.ensures.safe.clean c.count_rows.ensures.stays)
