use Rattle.std.proofs.Common.{◌≡◌, ℕ, ◌+◌, ◌≤◌, length, None}
use Rattle.std.specs.Prelude.{slice_index_or}
use Rattle.ghg_engine.specs.Progress.{HasCome}
use Rattle.ghg_engine.proofs.progress.Progress.take_in.Given as goal

abbrev pub invariant-loop-at : goal.invariant-loop-at
invariant-loop-at g l = record {
  long : length l.outcomes.items ≡ length l.initial.outcomes.items;
  rest : (k : ℕ) → l.at ≤ k → slice_index_or l.outcomes.items k None ≡ slice_index_or l.initial.outcomes.items k None;
  progress : HasCome (g.C.Cells.content l.change.before.now) (g.R.Records.content l.change.records.now) l.change.keys.now l.nodes (l.start + l.at) l.self;
  reader : l.reader ≡ l.change.records.now;
}
