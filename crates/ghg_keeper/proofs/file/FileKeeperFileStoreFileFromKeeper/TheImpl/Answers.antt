use Rattle.std.proofs.Common.{refl}
use Rattle.ghg_keeper.proofs.Files.{adds_none, keeps_none, on_err, on_ok, tells_none}
use Rattle.ghg_keeper.proofs.file.FileKeeperFileStoreFileFromKeeper.TheImpl.Goals as goal

pub attach-tells : goal.attach-tells
attach-tells g c = record {
  rows = tells_none c.args.self.now c.new.self.now;
  told = λ h. absurd h;
  ok = on_ok c.result tt;
  err = on_err c.result refl;
  faults = c.ensures.faults;
}

pub count-tells : goal.count-tells
count-tells g c = record {
  count = λ h. absurd h;
  told = λ h. absurd h;
  keeps = keeps_none c.args.self.now c.new.self.now;
  faults = c.ensures.faults;
}

pub row-tells : goal.row-tells
row-tells g c = record {
  row = λ h. absurd h;
  told = λ h. absurd h;
  keeps = keeps_none c.args.self.now c.new.self.now;
  faults = c.ensures.faults;
}

pub append-tells : goal.append-tells
append-tells g c = record {
  ok = on_ok c.result (adds_none c.args.self.now c.new.self.now _);
  number = λ h. absurd h;
  told = λ h. absurd h;
  err = on_err c.result (keeps_none c.args.self.now c.new.self.now);
  faults = c.ensures.faults;
}
