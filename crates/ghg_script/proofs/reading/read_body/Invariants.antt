use Rattle.std.proofs.Common.{◌≡◌, ◌-◌, ◌≤◌}
use Rattle.ghg_script.proofs.Pieces.{TookPart}
use Rattle.ghg_script.proofs.reading.read_body.Given as goal

abbrev pub invariant-pieces : goal.invariant-pieces
invariant-pieces g l = record {
  took : TookPart (g.S.Told.tape l.fn.source) (g.S.Told.tape l.source) l.at l.body.items;
  stays : (g.S.Told.tape l.source).faults ≡ (g.S.Told.tape l.fn.source).faults;
  within : l.at ≤ l.count;
}

abbrev pub decreases-pieces : goal.decreases-pieces
decreases-pieces g l = l.count - l.at
