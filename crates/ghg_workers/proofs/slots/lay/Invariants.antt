use Rattle.std.proofs.Common.{◌≡◌, length, vec_len, All}
use Rattle.ghg_workers.specs.Entries.{IsOf}
use Rattle.ghg_workers.proofs.Filling.{IsLaid}
use Rattle.ghg_workers.proofs.slots.lay.Given as goal

abbrev pub invariant-loop-place : goal.invariant-loop-place
invariant-loop-place g l = length l.slots.items ≡ l._place

abbrev pub invariant-entries : goal.invariant-entries
invariant-entries g l = record {
  long : length l.slots.items ≡ g.N.Layer.count l.layer;
  laid : IsLaid (g.N.Layer.outcome l.layer) (g.N.Layer.count l.layer) l.slots.items l.entries.items;
  right : All (IsOf (g.N.Layer.outcome l.layer) (g.N.Layer.count l.layer)) l.entries.items;
}

abbrev pub decreases-entries : goal.decreases-entries
decreases-entries g l = vec_len l.entries
