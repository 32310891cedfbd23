use Rattle.std.proofs.Common.{◌∙◌}
use Rattle.ghg_engine.proofs.Come.{none_at, on_ok, one_come}
use Rattle.ghg_engine.proofs.Ready.{outcome_there, stands_there}
use Rattle.ghg_engine.proofs.progress.Progress.take_one.Goals as goal

pub note-requires-clause-outcome : goal.note-requires-clause-outcome
note-requires-clause-outcome g c =
    let m = g.R.Records.content c.args.change.now.records.now in
    let nodes = c.args.nodes.now in
    let n = c.index-nodes-place.result in
    let given = c.requires.outcome n (stands_there nodes c.args.place n c.requires.place c.index-nodes-place.is) in
    λ k at. c.input_of-outcome.ensures ∙ outcome_there nodes c.args.place n c.requires.place c.index-nodes-place.is m c.args.evaluated.outcome given.outcome k at

pub insert-requires : goal.insert-requires
insert-requires g c =
    none_at (g.C.Cells.content c.args.change.now.before.now) (g.R.Records.content c.args.change.now.records.now) c.args.change.now.keys.now c.args.nodes.now
    c.args.place c.index-nodes-place.result c.requires.place c.index-nodes-place.is c.requires.once c.args.self.now c.requires.progress

pub returns-clause-progress : goal.returns-clause-progress
returns-clause-progress g c =
    on_ok c.insert.result c.insert.ensures.outcomes c.insert.ensures.fresh (λ outcomes fresh.
    one_come (g.C.Cells.content c.args.change.now.before.now) (g.R.Records.content c.args.change.now.records.now) c.args.change.now.keys.now c.args.nodes.now
    c.args.place c.index-nodes-place.result c.requires.place c.index-nodes-place.is c.args.self.now _ c.args.evaluated c.requires.progress c.requires.outcome
    outcomes fresh c.least_with-self.ensures c.in_ok-note.ensures.notes)
