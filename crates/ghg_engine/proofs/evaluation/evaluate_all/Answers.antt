use Rattle.std.proofs.Common.{◌≡◌, ◌∙◌, ◌+◌, ◌-◌, ◌≤◌, take, drop, length, get_or, sym, ap, ap₂, subst, arith}
use Rattle.std.proofs.lemmas.List.{length-drop, length-take}
use Rattle.ghg_affected.specs.Counts.{StandOnce}
use Rattle.ghg_columns.specs.Cells.{cell_at, found_in}
use Rattle.ghg_columns.specs.Fresh.{fresh_at}
use Rattle.ghg_columns.specs.Overlays.{outcomes_of}
use Rattle.ghg_shifts.specs.Progress.{IsEdit}
use Rattle.ghg_engine.specs.Evaluation.{AreKept}
use Rattle.ghg_engine.specs.Progress.{HasCome}
use Rattle.ghg_engine.proofs.Come.{filled_from}
use Rattle.ghg_engine.proofs.Ready.{layer_span, next_start, ready_layer}
use Rattle.ghg_engine.proofs.Spans.{all_spanned, starts_first}
use Rattle.ghg_engine.proofs.Turns.{ends_evaluated, ends_over, nothing_fresh, nothing_so_far}
use Rattle.ghg_engine.proofs.evaluation.evaluate_all.Goals as goal

pub loop-layer-init : goal.loop-layer-init
loop-layer-init g c =
    let m = g.R.Records.content c.args.change.now.records.now in
    let nodes = c.args.layers.now.nodes.items in
    let found = ap₂ (λ f k. found_in f (cell_at k)) c.over-cells.ensures.fresh c.over-cells.ensures.kept ∙ nothing_fresh (cell_at c.args.kept.now) in
    record {
      start = sym (starts_first c.args.layers.now.ends.items);
      progress = record {
        cells = nothing_so_far m nodes c.requires.turn (outcomes_of c.over-cells.result) (fresh_at c.over-cells.result.fresh)
            (subst (AreKept m nodes) (sym found) c.requires.kept) c.over-cells.ensures.fresh;
        notes = c.requires.notes;
      };
      steps = omega arith;
    }

pub evaluate_layer-requires-clause-ready : goal.evaluate_layer-requires-clause-ready
evaluate_layer-requires-clause-ready g c = λ _ _.
    let old = g.C.Cells.content c.args.change.now.before.now in
    let new = g.R.Records.content c.args.change.now.records.now in
    let keys = c.args.change.now.keys.now in
    let l = c.args.layers.now in
    let all = c.as_slice-all.result.now in
    let ends = c.as_slice-ends.result.now in
    let same = c.as_slice-all.ensures.value in
    let same_ends = c.as_slice-ends.ensures.value in
    let i = c.loop-layer.layer in
    let start = c.loop-layer.start in
    let at = c.loop-layer.invariant.start in
    ready_layer old new keys c.requires.layers.0 l c.requires.layers.1 all ends same same_ends i start c.loop-layer-test.true at c.requires.edit c.loop-layer.progress c.loop-layer.invariant.progress

pub evaluate_layer-requires-clause-nodes : goal.evaluate_layer-requires-clause-nodes
evaluate_layer-requires-clause-nodes g c =
    let all = c.as_slice-all.result.now in
    let ends = c.as_slice-ends.result.now in
    let same = c.as_slice-all.ensures.value in
    let i = c.loop-layer.layer in
    let start = c.loop-layer.start in
    let end = get_or ends i 0 in
    let part = length-take (end - start) (drop start all) in
    let rest = length-drop start all in
    omega (arith, part, rest, ap length same, c.requires.few)

pub evaluate_layer-requires-clause-places : goal.evaluate_layer-requires-clause-places
evaluate_layer-requires-clause-places g c =
    let old = g.C.Cells.content c.args.change.now.before.now in
    let new = g.R.Records.content c.args.change.now.records.now in
    let keys = c.args.change.now.keys.now in
    let l = c.args.layers.now in
    let all = c.as_slice-all.result.now in
    let ends = c.as_slice-ends.result.now in
    let same = c.as_slice-all.ensures.value in
    let same_ends = c.as_slice-ends.ensures.value in
    let i = c.loop-layer.layer in
    let start = c.loop-layer.start in
    let end = get_or ends i 0 in
    let at = c.loop-layer.invariant.start in
    let span = layer_span old new keys c.requires.layers.0 l c.requires.layers.1 all ends same same_ends i start c.loop-layer-test.true at in
    let part = length-take (end - start) (drop start all) in
    let rest = length-drop start all in
    omega (arith, part, rest, ap length same, c.requires.few, span.0, span.1)

pub take_in-requires-clause-edit : goal.take_in-requires-clause-edit
take_in-requires-clause-edit g c =
    let old = g.C.Cells.content c.args.change.now.before.now in
    let new = g.R.Records.content c.args.change.now.records.now in
    let keys = c.args.change.now.keys.now in
    let same = c.as_slice-all.ensures.value in
    subst (IsEdit old new keys) (sym same) c.requires.edit

pub take_in-requires-clause-once : goal.take_in-requires-clause-once
take_in-requires-clause-once g c =
    let same = c.as_slice-all.ensures.value in
    subst StandOnce (sym same) c.requires.turn.once

pub take_in-requires-clause-within : goal.take_in-requires-clause-within
take_in-requires-clause-within g c =
    let old = g.C.Cells.content c.args.change.now.before.now in
    let new = g.R.Records.content c.args.change.now.records.now in
    let keys = c.args.change.now.keys.now in
    let l = c.args.layers.now in
    let all = c.as_slice-all.result.now in
    let ends = c.as_slice-ends.result.now in
    let same = c.as_slice-all.ensures.value in
    let same_ends = c.as_slice-ends.ensures.value in
    let i = c.loop-layer.layer in
    let start = c.loop-layer.start in
    let end = get_or ends i 0 in
    let at = c.loop-layer.invariant.start in
    let span = layer_span old new keys c.requires.layers.0 l c.requires.layers.1 all ends same same_ends i start c.loop-layer-test.true at in
    let part = length-take (end - start) (drop start all) in
    let rest = length-drop start all in
    omega (arith, part, rest, span.0, span.1, c.in_ok-outcomes.ensures.slots.long)

pub take_in-requires-clause-outcomes : goal.take_in-requires-clause-outcomes
take_in-requires-clause-outcomes g c =
    let new = g.R.Records.content c.args.change.now.records.now in
    let all = c.as_slice-all.result.now in
    let ends = c.as_slice-ends.result.now in
    let i = c.loop-layer.layer in
    let start = c.loop-layer.start in
    let end = get_or ends i 0 in
    let part = length-take (end - start) (drop start all) in
    filled_from new all start end (length (take (end - start) (drop start all))) (omega (arith, part)) c.in_ok-outcomes.outcomes c.in_ok-outcomes.ensures.slots

pub take_in-requires-clause-progress : goal.take_in-requires-clause-progress
take_in-requires-clause-progress g c =
    let old = g.C.Cells.content c.args.change.now.before.now in
    let new = g.R.Records.content c.args.change.now.records.now in
    let keys = c.args.change.now.keys.now in
    let same = c.as_slice-all.ensures.value in
    let start = c.loop-layer.start in
    subst (λ ns. HasCome old new keys ns start c.loop-layer.progress) (sym same) c.loop-layer.invariant.progress

pub loop-layer-preserved : goal.loop-layer-preserved
loop-layer-preserved g c =
    let old = g.C.Cells.content c.args.change.now.before.now in
    let new = g.R.Records.content c.args.change.now.records.now in
    let keys = c.args.change.now.keys.now in
    let l = c.args.layers.now in
    let all = c.as_slice-all.result.now in
    let ends = c.as_slice-ends.result.now in
    let same = c.as_slice-all.ensures.value in
    let same_ends = c.as_slice-ends.ensures.value in
    let i = c.loop-layer.layer in
    let start = c.loop-layer.start in
    let end = get_or ends i 0 in
    let at = c.loop-layer.invariant.start in
    let span = layer_span old new keys c.requires.layers.0 l c.requires.layers.1 all ends same same_ends i start c.loop-layer-test.true at in
    let part = length-take (end - start) (drop start all) in
    let rest = length-drop start all in
    let count : start + length c.in_ok-outcomes.outcomes.items ≡ end = omega (arith, part, rest, span.0, span.1, c.in_ok-outcomes.ensures.slots.long) in
    record {
      start = next_start old new keys c.requires.layers.0 l c.requires.layers.1 all ends same same_ends i start c.loop-layer-test.true at;
      progress = subst (λ ns. HasCome old new keys ns end c.take_in.new.self) same
          (subst (λ k. HasCome old new keys all k c.take_in.new.self) count c.in_ok-take_in.ensures);
      steps = omega (arith, part, rest, span.0, span.1, c.loop-layer.invariant.steps, c.evaluate_layer.ensures.steps);
    }

pub returns-in-None-clause-evaluated : goal.returns-in-None-clause-evaluated
returns-in-None-clause-evaluated g c =
    let new = g.R.Records.content c.args.change.now.records.now in
    let l = c.args.layers.now in
    let same_ends = c.as_slice-ends.ensures.value in
    let over : length l.ends.items ≤ c.loop-layer.layer = subst (λ es. length es ≤ c.loop-layer.layer) same_ends c.loop-layer-test.false in
    let all : c.loop-layer.start ≡ length l.nodes.items = c.loop-layer.invariant.start ∙ all_spanned 0 l.ends.items (length l.nodes.items) c.loop-layer.layer c.requires.layers.1.ends over in
    let p = c.loop-layer.progress in
    ends_evaluated new l.nodes.items c.loop-layer.start (omega (arith, all)) (outcomes_of p.cells) (fresh_at p.cells.fresh) p.least c.loop-layer.invariant.progress.cells
    (fresh_at c.into_fresh.result) (ap fresh_at c.into_fresh.ensures) c.in-None.is

pub returns-clause-evaluated : goal.returns-clause-evaluated
returns-clause-evaluated g c =
    let new = g.R.Records.content c.args.change.now.records.now in
    let l = c.args.layers.now in
    let same_ends = c.as_slice-ends.ensures.value in
    let over : length l.ends.items ≤ c.loop-layer.layer = subst (λ es. length es ≤ c.loop-layer.layer) same_ends c.loop-layer-test.false in
    let all : c.loop-layer.start ≡ length l.nodes.items = c.loop-layer.invariant.start ∙ all_spanned 0 l.ends.items (length l.nodes.items) c.loop-layer.layer c.requires.layers.1.ends over in
    let p = c.loop-layer.progress in
    ends_over new l.nodes.items c.loop-layer.start (omega (arith, all)) (outcomes_of p.cells) (fresh_at p.cells.fresh) p.least c.loop-layer.invariant.progress.cells
    c.in-Some.node c.in-Some.is

-- ---- a layer is a part of the nodes

pub offset_bounds-all-start : goal.offset_bounds-all-start
offset_bounds-all-start g c =
    let old = g.C.Cells.content c.args.change.now.before.now in
    let new = g.R.Records.content c.args.change.now.records.now in
    let l = c.args.layers.now in
    let same = c.as_slice-all.ensures.value in
    let span = layer_span old new c.args.change.now.keys.now c.requires.layers.0 l c.requires.layers.1 c.as_slice-all.result.now c.as_slice-ends.result.now
    same c.as_slice-ends.ensures.value c.loop-layer.layer c.loop-layer.start c.loop-layer-test.true c.loop-layer.invariant.start in
    let long = ap length same in
    omega (arith, span.0, span.1, long, c.requires.few)

pub slice_bounds-part-count : goal.slice_bounds-part-count
slice_bounds-part-count g c =
    let old = g.C.Cells.content c.args.change.now.before.now in
    let new = g.R.Records.content c.args.change.now.records.now in
    let l = c.args.layers.now in
    let same = c.as_slice-all.ensures.value in
    let span = layer_span old new c.args.change.now.keys.now c.requires.layers.0 l c.requires.layers.1 c.as_slice-all.result.now c.as_slice-ends.result.now
    same c.as_slice-ends.ensures.value c.loop-layer.layer c.loop-layer.start c.loop-layer-test.true c.loop-layer.invariant.start in
    omega (arith, span.0)

pub slice_bounds-part-start : goal.slice_bounds-part-start
slice_bounds-part-start g c =
    let old = g.C.Cells.content c.args.change.now.before.now in
    let new = g.R.Records.content c.args.change.now.records.now in
    let l = c.args.layers.now in
    let same = c.as_slice-all.ensures.value in
    let span = layer_span old new c.args.change.now.keys.now c.requires.layers.0 l c.requires.layers.1 c.as_slice-all.result.now c.as_slice-ends.result.now
    same c.as_slice-ends.ensures.value c.loop-layer.layer c.loop-layer.start c.loop-layer-test.true c.loop-layer.invariant.start in
    let before : c.loop-layer.start ≤ get_or c.as_slice-ends.result.now c.loop-layer.layer 0 = omega (arith, span.0) in
    before

pub slice_bounds-part-end : goal.slice_bounds-part-end
slice_bounds-part-end g c =
    let old = g.C.Cells.content c.args.change.now.before.now in
    let new = g.R.Records.content c.args.change.now.records.now in
    let l = c.args.layers.now in
    let same = c.as_slice-all.ensures.value in
    let span = layer_span old new c.args.change.now.keys.now c.requires.layers.0 l c.requires.layers.1 c.as_slice-all.result.now c.as_slice-ends.result.now
    same c.as_slice-ends.ensures.value c.loop-layer.layer c.loop-layer.start c.loop-layer-test.true c.loop-layer.invariant.start in
    span.1

-- ---- the steps

pub returns-in_err-outcomes-clause-steps : goal.returns-in_err-outcomes-clause-steps
returns-in_err-outcomes-clause-steps g c =
    let old = g.C.Cells.content c.args.change.now.before.now in
    let new = g.R.Records.content c.args.change.now.records.now in
    let l = c.args.layers.now in
    let same = c.as_slice-all.ensures.value in
    let span = layer_span old new c.args.change.now.keys.now c.requires.layers.0 l c.requires.layers.1 c.as_slice-all.result.now c.as_slice-ends.result.now
    same c.as_slice-ends.ensures.value c.loop-layer.layer c.loop-layer.start c.loop-layer-test.true c.loop-layer.invariant.start in
    let part = length-take (get_or c.as_slice-ends.result.now c.loop-layer.layer 0 - c.loop-layer.start) (drop c.loop-layer.start c.as_slice-all.result.now) in
    let rest = length-drop c.loop-layer.start c.as_slice-all.result.now in
    omega (arith, part, rest, span.0, span.1, ap length same, c.loop-layer.invariant.steps, c.evaluate_layer.ensures.steps)

pub returns-in_err-take_in-clause-steps : goal.returns-in_err-take_in-clause-steps
returns-in_err-take_in-clause-steps g c =
    let old = g.C.Cells.content c.args.change.now.before.now in
    let new = g.R.Records.content c.args.change.now.records.now in
    let l = c.args.layers.now in
    let same = c.as_slice-all.ensures.value in
    let span = layer_span old new c.args.change.now.keys.now c.requires.layers.0 l c.requires.layers.1 c.as_slice-all.result.now c.as_slice-ends.result.now
    same c.as_slice-ends.ensures.value c.loop-layer.layer c.loop-layer.start c.loop-layer-test.true c.loop-layer.invariant.start in
    let part = length-take (get_or c.as_slice-ends.result.now c.loop-layer.layer 0 - c.loop-layer.start) (drop c.loop-layer.start c.as_slice-all.result.now) in
    let rest = length-drop c.loop-layer.start c.as_slice-all.result.now in
    omega (arith, part, rest, span.0, span.1, ap length same, c.loop-layer.invariant.steps, c.evaluate_layer.ensures.steps)

pub returns-in-None-clause-steps : goal.returns-in-None-clause-steps
returns-in-None-clause-steps g c =
    let l = c.args.layers.now in
    let same_ends = c.as_slice-ends.ensures.value in
    let over : length l.ends.items ≤ c.loop-layer.layer = subst (λ es. length es ≤ c.loop-layer.layer) same_ends c.loop-layer-test.false in
    let all : c.loop-layer.start ≡ length l.nodes.items = c.loop-layer.invariant.start ∙ all_spanned 0 l.ends.items (length l.nodes.items) c.loop-layer.layer c.requires.layers.1.ends over in
    omega (arith, all, c.loop-layer.invariant.steps)

pub returns-clause-steps : goal.returns-clause-steps
returns-clause-steps g c =
    let l = c.args.layers.now in
    let same_ends = c.as_slice-ends.ensures.value in
    let over : length l.ends.items ≤ c.loop-layer.layer = subst (λ es. length es ≤ c.loop-layer.layer) same_ends c.loop-layer-test.false in
    let all : c.loop-layer.start ≡ length l.nodes.items = c.loop-layer.invariant.start ∙ all_spanned 0 l.ends.items (length l.nodes.items) c.loop-layer.layer c.requires.layers.1.ends over in
    omega (arith, all, c.loop-layer.invariant.steps)

pub returns-in-None-clause-spent : goal.returns-in-None-clause-spent
returns-in-None-clause-spent g c =
    let l = c.args.layers.now in
    let same_ends = c.as_slice-ends.ensures.value in
    let over : length l.ends.items ≤ c.loop-layer.layer = subst (λ es. length es ≤ c.loop-layer.layer) same_ends c.loop-layer-test.false in
    let all : c.loop-layer.start ≡ length l.nodes.items = c.loop-layer.invariant.start ∙ all_spanned 0 l.ends.items (length l.nodes.items) c.loop-layer.layer c.requires.layers.1.ends over in
    omega (arith, all, c.loop-layer.invariant.steps)

pub returns-clause-spent : goal.returns-clause-spent
returns-clause-spent g c =
    let l = c.args.layers.now in
    let same_ends = c.as_slice-ends.ensures.value in
    let over : length l.ends.items ≤ c.loop-layer.layer = subst (λ es. length es ≤ c.loop-layer.layer) same_ends c.loop-layer-test.false in
    let all : c.loop-layer.start ≡ length l.nodes.items = c.loop-layer.invariant.start ∙ all_spanned 0 l.ends.items (length l.nodes.items) c.loop-layer.layer c.requires.layers.1.ends over in
    omega (arith, all, c.loop-layer.invariant.steps)
