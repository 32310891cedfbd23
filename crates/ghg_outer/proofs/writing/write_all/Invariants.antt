use Rattle.std.proofs.Common.{◌≡◌, ◌-◌, ◌≤◌, length, take}
use Rattle.ghg_outer.specs.Tape.{Appends}
use Rattle.ghg_outer.proofs.writing.write_all.Given as goal

abbrev pub invariant-pieces : goal.invariant-pieces
invariant-pieces g l = record {
  appended : Appends (g.W.Told.tape l.fn.out) (g.W.Told.tape l.out) (take l.at l.piece);
  stays : (g.W.Told.tape l.out).faults ≡ (g.W.Told.tape l.fn.out).faults;
  within : l.at ≤ length l.piece;
}

abbrev pub decreases-pieces : goal.decreases-pieces
decreases-pieces g l = length l.piece - l.at
