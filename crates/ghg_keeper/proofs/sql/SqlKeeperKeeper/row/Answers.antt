use Rattle.ghg_keeper.specs.Databases.{database}
use Rattle.sqlite.specs.Held.{state}
use Rattle.ghg_keeper.proofs.Shelves.{shelf_row, shelf_keeps}
use Rattle.std.proofs.Common.{inl, inr, refl}
use Rattle.ghg_keeper.proofs.sql.SqlKeeperKeeper.row.Goals as goal

pub returns-clause-cause : goal.returns-clause-cause
returns-clause-cause g c = rw (c.told-in-Err.ensures.answer, c.told-in-Err.ensures.same) (inr (c.in-Err.error, inl c.in-Err.ensures.reads, refl))

pub returns-in-Ok-kept_row-clause-row : goal.returns-in-Ok-kept_row-clause-row
returns-in-Ok-kept_row-clause-row g c =
    shelf_row c.args.self.now.is_attached (database g.S.Store c.args.self.now) (state g.S.Store c.read_row.new.connection) c.args.seq _ c.in-Ok-kept_row.kept c.if-not-self.false c.read_row.ensures.stays c.in-Ok.ensures.row
    c.in-Ok-kept_row.ensures.id c.in-Ok-kept_row.ensures.body

pub returns-in-Ok-kept_row-clause-keeps : goal.returns-in-Ok-kept_row-clause-keeps
returns-in-Ok-kept_row-clause-keeps g c =
    shelf_keeps c.args.self.now.is_attached (database g.S.Store c.args.self.now) (state g.S.Store c.read_row.new.connection) _ _ c.if-not-self.false c.read_row.ensures.safe.clean c.read_row.ensures.stays

pub returns-in-Ok-clause-keeps : goal.returns-in-Ok-clause-keeps
returns-in-Ok-clause-keeps g c = rw (c.told.ensures.same, c.told.ensures.attached)
    (shelf_keeps c.args.self.now.is_attached (database g.S.Store c.args.self.now) (state g.S.Store c.read_row.new.connection) _ _ c.if-not-self.false c.read_row.ensures.safe.clean c.read_row.ensures.stays)

pub returns-clause-keeps : goal.returns-clause-keeps
returns-clause-keeps g c = rw (c.told-in-Err.ensures.same, c.told-in-Err.ensures.attached)
    (shelf_keeps c.args.self.now.is_attached (database g.S.Store c.args.self.now) (state g.S.Store c.read_row.new.connection) _ _ c.if-not-self.false c.read_row.ensures.safe.clean c.read_row.ensures.stays)
