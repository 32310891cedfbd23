use Rattle.std.proofs.Common.{◌≡◌, ◌-◌, ◌≤◌, length, All}
use Rattle.ghg_workers.specs.Entries.{places_of, IsOf}
use Rattle.ghg_workers.proofs.worker.work.Given as goal

abbrev pub invariant-claims : goal.invariant-claims
invariant-claims g l = record {
  board : l.pass.board ≡ l.task.board.now;
  stake : l.pass.stake ≡ l.initial.pass.stake;
  misses : l.pass.misses ≡ l.initial.pass.misses;
  suits : g.N.Layer.suits l.task.layer.now l.reader;
  few : length l.pass.claimed ≤ l.pass.board.places;
  places : places_of l.entries.items ≡ l.pass.claimed;
  values : All (IsOf (g.N.Layer.outcome l.task.layer.now) (g.N.Layer.count l.task.layer.now)) l.entries.items;
}

abbrev pub decreases-claims : goal.decreases-claims
decreases-claims g l = l.pass.board.places - length l.pass.claimed
