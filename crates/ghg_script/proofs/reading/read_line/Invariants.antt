use Rattle.std.proofs.Common.{◌≡◌, ◌+◌, ◌-◌, ◌≤◌, length, true}
use Rattle.ghg_outer.specs.Tape.{Consumes}
use Rattle.ghg_script.specs.Commands.{lacks, longest_line}
use Rattle.ghg_script.proofs.reading.read_line.Given as goal

abbrev pub invariant-bytes : goal.invariant-bytes
invariant-bytes g l = record {
  read : Consumes (g.S.Told.tape l.fn.source) (g.S.Told.tape l.source) l.line.items;
  stays : (g.S.Told.tape l.source).faults ≡ (g.S.Told.tape l.fn.source).faults;
  plain : lacks 10 l.line.items ≡ true;
  short : length l.line.items ≤ longest_line + 1;
}

abbrev pub decreases-bytes : goal.decreases-bytes
decreases-bytes g l = longest_line + 1 - length l.line.items
