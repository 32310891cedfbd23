use Rattle.std.proofs.Common.{Contains, IfOk, sym, subst}
use Rattle.ghg_columns.specs.Overlays.{outcomes_of}
use Rattle.ghg_evaluation.specs.Evaluation.{IsReady}
use Rattle.ghg_shifts.specs.Noted.{IsOutcomeOf}
use Rattle.ghg_engine.proofs.Ready.{outcomes_at}
use Rattle.ghg_engine.proofs.layer.NodesOfLayerLayer.evaluate.Goals as goal

pub evaluate-requires : goal.evaluate-requires
evaluate-requires g c =
    let old = g.C.Cells.content c.args.self.now.before.now in
    let new = g.R.Records.content c.args.self.now.records.now in
    let found = outcomes_of c.args.self.now.cells.now in
    let there : Contains c.args.self.now.nodes.now c.index-self-place.result = (c.args.place, c.requires.place, sym c.index-self-place.is) in
    let ready = c.requires.ready c.index-self-place.result there in
    rw c.requires.reader
    (subst (λ n. IsReady old new found c.args.self.now.shifts.now n) c.index-self-place.is ready)

pub returns-clause-outcome : goal.returns-clause-outcome
returns-clause-outcome g c =
    let new = g.R.Records.content c.args.self.now.records.now in
    let outcome = rw c.requires.reader at c.evaluate.ensures.outcome in
    outcomes_at c.args.self.now.nodes.now c.args.place c.index-self-place.result c.requires.place c.index-self-place.is new
    c.evaluate.result (subst (λ n. IfOk c.evaluate.result (IsOutcomeOf new n)) (sym c.index-self-place.is) outcome)
