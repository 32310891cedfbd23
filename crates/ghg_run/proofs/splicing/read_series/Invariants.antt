use Rattle.std.proofs.Common.{◌≡◌, ◌+◌, ◌-◌, ◌≤◌, length}
use Rattle.ghg_outer.specs.Tape.{Consumes}
use Rattle.ghg_splice.specs.Splice.{max_body}
use Rattle.ghg_run.proofs.splicing.read_series.Given as goal

abbrev pub invariant-blocks-2 : goal.invariant-blocks-2
invariant-blocks-2 g l = record {
  read : Consumes (g.S.Told.tape l.fn.input) (g.S.Told.tape l.input) l.series.items;
  stays : (g.S.Told.tape l.input).faults ≡ (g.S.Told.tape l.fn.input).faults;
  few : length l.series.items ≤ max_body + 1;
}

abbrev pub decreases-blocks-2 : goal.decreases-blocks-2
decreases-blocks-2 g l = max_body + 1 - length l.series.items
