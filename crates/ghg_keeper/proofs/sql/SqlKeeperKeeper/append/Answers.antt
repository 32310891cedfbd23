use Rattle.std.proofs.Common.{◌≡◌, unsigned_abs, rules, subst}
use Rattle.ghg_keeper.proofs.Files.{on_err}
use Rattle.ghg_keeper.specs.Databases.{database}
use Rattle.ghg_keeper.specs.Listed.{Appends}
use Rattle.sqlite.specs.Held.{state}
use Rattle.ghg_keeper.proofs.Shelves.{shelf_adds, shelf_keeps, shelf_number}
use Rattle.ghg_keeper.proofs.Ids.{id_is_utf8}
use Rattle.ghg_keeper.proofs.sql.SqlKeeperKeeper.append.Goals as goal

pub returns-in_default-clause-cause : goal.returns-in_default-clause-cause
returns-in_default-clause-cause g c = absurd (c.in_default.ensures.cases.0 (id_is_utf8 c.args.id.now c.requires))

pub returns-in-Ok-insert_row-clause-ok : goal.returns-in-Ok-insert_row-clause-ok
returns-in-Ok-insert_row-clause-ok g c =
    let old = database g.S.Store c.args.self.now in
    let new = state g.S.Store c.insert_row.new.connection in
    shelf_adds c.args.self.now.is_attached old new _ _ c.args.id.now c.args.body.now c.if-not-self.false c.insert_row.ensures.safe.clean
    (λ t. subst (λ id. Appends old new id c.args.body.now) c.in-Ok.ensures.cases.0 (c.in-Ok-insert_row.ensures.appends t))

pub returns-in-Ok-insert_row-clause-number : goal.returns-in-Ok-insert_row-clause-number
returns-in-Ok-insert_row-clause-number g c =
    let value : c.unsigned_abs.result ≡ unsigned_abs c.last_insert_rowid.result = search rules in
    shelf_number c.args.self.now.is_attached (database g.S.Store c.args.self.now) (state g.S.Store c.insert_row.new.connection) _ _ c.unsigned_abs.result c.last_insert_rowid.result c.if-not-self.false c.in-Ok-insert_row.ensures.appends value c.last_insert_rowid.ensures

pub returns-in-Err-clause-err : goal.returns-in-Err-clause-err
returns-in-Err-clause-err g c = rw (c.told.ensures.same, c.told.ensures.attached) (on_err c.told.result
    (shelf_keeps c.args.self.now.is_attached (database g.S.Store c.args.self.now) (state g.S.Store c.insert_row.new.connection) _ _ c.if-not-self.false c.insert_row.ensures.safe.clean c.in-Err.ensures.refused))
