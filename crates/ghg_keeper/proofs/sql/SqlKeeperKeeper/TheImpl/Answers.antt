use Rattle.std.proofs.Common.{refl}
use Rattle.ghg_keeper.specs.Databases.{database}
use Rattle.ghg_keeper.proofs.Files.{on_err, on_ok}
use Rattle.ghg_keeper.proofs.Safe.{stays_told}
use Rattle.ghg_keeper.proofs.sql.SqlKeeperKeeper.TheImpl.Goals as goal

pub attach-tells : goal.attach-tells
attach-tells g c = record {
  rows = c.ensures.rows;
  told = c.ensures.told;
  ok = on_ok c.result tt;
  err = on_err c.result refl;
  faults = c.ensures.faults;
}

pub count-tells : goal.count-tells
count-tells g c = record {
  count = c.ensures.count;
  keeps = c.ensures.keeps;
  told = stays_told c.args.self.now.is_attached c.new.self.now.is_attached (database g.S.Store c.args.self.now) (database g.S.Store c.new.self.now) c.args.self.now.faults c.new.self.now.faults
      c.result c.ensures.attached c.ensures.safe;
  faults = c.ensures.faults;
}

pub row-tells : goal.row-tells
row-tells g c = record {
  row = c.ensures.row;
  keeps = c.ensures.keeps;
  told = stays_told c.args.self.now.is_attached c.new.self.now.is_attached (database g.S.Store c.args.self.now) (database g.S.Store c.new.self.now) c.args.self.now.faults c.new.self.now.faults
      c.result c.ensures.attached c.ensures.safe;
  faults = c.ensures.faults;
}

pub append-tells : goal.append-tells
append-tells g c = record {
  ok = c.ensures.ok;
  number = c.ensures.number;
  err = c.ensures.err;
  told = stays_told c.args.self.now.is_attached c.new.self.now.is_attached (database g.S.Store c.args.self.now) (database g.S.Store c.new.self.now) c.args.self.now.faults c.new.self.now.faults
      c.result c.ensures.attached c.ensures.safe;
  faults = c.ensures.faults;
}
