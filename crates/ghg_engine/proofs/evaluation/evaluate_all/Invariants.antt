use Rattle.std.proofs.Common.{◌≡◌, ◌+◌}
use Rattle.ghg_engine.specs.Progress.{HasCome}
use Rattle.ghg_engine.proofs.Spans.{start_of}
use Rattle.ghg_engine.proofs.evaluation.evaluate_all.Given as goal

abbrev pub invariant-loop-layer : goal.invariant-loop-layer
invariant-loop-layer g l = record {
  start : l.start ≡ start_of 0 l.layers.ends.items l.layer;
  progress : HasCome (g.C.Cells.content l.change.before.now) (g.R.Records.content l.change.records.now) l.change.keys.now l.layers.nodes.items l.start l.progress;
  steps : l.steps ≡ l.fn.steps + l.start;
}
