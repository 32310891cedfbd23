use Rattle.std.proofs.Common.{◌∙◌, ◌+◌, [], sym, ap, subst, arith}
use Rattle.std.specs.Prelude.{MatchResult}
use Rattle.std.proofs.lemmas.List.Sorted.{length_permutation}
use Rattle.ghg_columns.specs.Cells.{cell_at}
use Rattle.ghg_data.specs.Changes.{applied}
use Rattle.ghg_shifts.specs.Progress.{IsEdit}
use Rattle.ghg_engine.specs.Notes.{AreNotes}
use Rattle.ghg_engine.specs.Proposals.{IsFresh, NamesOverflow}
use Rattle.ghg_engine.proofs.FewNodes.{few_affected}
use Rattle.ghg_engine.proofs.Patched.{all_affected}
use Rattle.ghg_engine.proofs.Edited.{distinct_nodes, edit_given, edit_moved, in_turn, is_answered, kept_moved, notes_moved, under_way}
use Rattle.ghg_engine.proofs.Spent.{answered}
use Rattle.ghg_engine.proofs.engine.Engine.evaluated.Goals as goal

pub of-requires-clause-edit : goal.of-requires-clause-edit
of-requires-clause-edit g c =
    let old = c.args.self.now.content in
    let records = c.after-records.result in
    let keys = c.keys-keys.result.now in
    let given = c.args.nodes.items in
    let kept = cell_at c.self.inside.cells in
    let is = ap (λ s. s.content) c.self.view_is in
    let are = under_way c.args.self.now c.self.inside.book.content records c.args.edits.now keys given kept is c.after-records.ensures c.keys-keys.ensures.keys c.self.invariant.0 c.requires.arranged c.requires.nodes in
    subst (IsEdit old records keys) (sym c.deref.ensures.value) (edit_given old records keys given kept are)

pub layers-requires-clause-nodes : goal.layers-requires-clause-nodes
layers-requires-clause-nodes g c =
    let old = c.args.self.now.content in
    let records = c.after-records.result in
    let keys = c.keys-keys.result.now in
    let given = c.args.nodes.items in
    let kept = cell_at c.self.inside.cells in
    let is = ap (λ s. s.content) c.self.view_is in
    let are = under_way c.args.self.now c.self.inside.book.content records c.args.edits.now keys given kept is c.after-records.ensures c.keys-keys.ensures.keys c.self.invariant.0 c.requires.arranged c.requires.nodes in
    distinct_nodes old records keys given kept are

pub evaluate_all-requires-clause-edit : goal.evaluate_all-requires-clause-edit
evaluate_all-requires-clause-edit g c = λ _ _.
    let old = c.args.self.now.content in
    let records = c.after-records.result in
    let keys = c.keys-keys.result.now in
    let given = c.args.nodes.items in
    let kept = cell_at c.self.inside.cells in
    let is = ap (λ s. s.content) c.self.view_is in
    let are = under_way c.args.self.now c.self.inside.book.content records c.args.edits.now keys given kept is c.after-records.ensures c.keys-keys.ensures.keys c.self.invariant.0 c.requires.arranged c.requires.nodes in
    let ns = c.in_ok-layers.layers.nodes.items in
    let same = c.in_ok-layers.ensures.same in
    edit_moved old records keys given kept are ns same

pub evaluate_all-requires-clause-turn : goal.evaluate_all-requires-clause-turn
evaluate_all-requires-clause-turn g c = λ _ _.
    let old = c.args.self.now.content in
    let records = c.after-records.result in
    let keys = c.keys-keys.result.now in
    let given = c.args.nodes.items in
    let kept = cell_at c.self.inside.cells in
    let is = ap (λ s. s.content) c.self.view_is in
    let are = under_way c.args.self.now c.self.inside.book.content records c.args.edits.now keys given kept is c.after-records.ensures c.keys-keys.ensures.keys c.self.invariant.0 c.requires.arranged c.requires.nodes in
    let ns = c.in_ok-layers.layers.nodes.items in
    let same = c.in_ok-layers.ensures.same in
    in_turn old records keys given kept are c.in_ok-layers.layers c.in_ok-layers.ensures

pub evaluate_all-requires-clause-layers : goal.evaluate_all-requires-clause-layers
evaluate_all-requires-clause-layers g c = λ _ _. (c.args.nodes.items, c.in_ok-layers.ensures)

pub evaluate_all-requires-clause-few : goal.evaluate_all-requires-clause-few
evaluate_all-requires-clause-few g c = λ _ _.
    let old = c.args.self.now.content in
    let new = applied old c.args.edits.now in
    let all = all_affected old new c.args.nodes.items c.requires.nodes in
    let same = length_permutation c.args.nodes.items c.in_ok-layers.layers.nodes.items c.in_ok-layers.ensures.same in
    let few = few_affected old new c.requires.arranged.planned.workbook in
    omega (arith, all, same, few)

pub evaluate_all-requires-clause-kept : goal.evaluate_all-requires-clause-kept
evaluate_all-requires-clause-kept g c = λ _ _.
    let old = c.args.self.now.content in
    let records = c.after-records.result in
    let keys = c.keys-keys.result.now in
    let given = c.args.nodes.items in
    let kept = cell_at c.self.inside.cells in
    let is = ap (λ s. s.content) c.self.view_is in
    let are = under_way c.args.self.now c.self.inside.book.content records c.args.edits.now keys given kept is c.after-records.ensures c.keys-keys.ensures.keys c.self.invariant.0 c.requires.arranged c.requires.nodes in
    let ns = c.in_ok-layers.layers.nodes.items in
    let same = c.in_ok-layers.ensures.same in
    kept_moved old records keys given kept are ns same

pub evaluate_all-requires-clause-notes : goal.evaluate_all-requires-clause-notes
evaluate_all-requires-clause-notes g c = λ _ _.
    let old = c.args.self.now.content in
    let records = c.after-records.result in
    let keys = c.keys-keys.result.now in
    let given = c.args.nodes.items in
    let kept = cell_at c.self.inside.cells in
    let is = ap (λ s. s.content) c.self.view_is in
    let are = under_way c.args.self.now c.self.inside.book.content records c.args.edits.now keys given kept is c.after-records.ensures c.keys-keys.ensures.keys c.self.invariant.0 c.requires.arranged c.requires.nodes in
    let ns = c.in_ok-layers.layers.nodes.items in
    let same = c.in_ok-layers.ensures.same in
    notes_moved old records keys given kept are ns same c.in_ok-notes.notes
    (subst (λ ks. AreNotes old records keys ks [] c.in_ok-notes.notes) c.deref.ensures.value c.in_ok-notes.ensures)

pub returns-clause-fresh : goal.returns-clause-fresh
returns-clause-fresh g c =
    let old = c.args.self.now.content in
    let records = c.after-records.result in
    let keys = c.keys-keys.result.now in
    let given = c.args.nodes.items in
    let kept = cell_at c.self.inside.cells in
    let is = ap (λ s. s.content) c.self.view_is in
    let are = under_way c.args.self.now c.self.inside.book.content records c.args.edits.now keys given kept is c.after-records.ensures c.keys-keys.ensures.keys c.self.invariant.0 c.requires.arranged c.requires.nodes in
    let ns = c.in_ok-layers.layers.nodes.items in
    let same = c.in_ok-layers.ensures.same in
    subst (λ m. MatchResult c.evaluate_all.result (IsFresh old m) (NamesOverflow m)) (c.after-records.ensures ∙ ap (λ m. applied m c.args.edits.now) is)
    (is_answered old records keys given kept are ns same c.evaluate_all.result c.evaluate_all.ensures.evaluated)

pub returns-clause-steps : goal.returns-clause-steps
returns-clause-steps g c =
    let same = length_permutation c.args.nodes.items c.in_ok-layers.layers.nodes.items c.in_ok-layers.ensures.same in
    omega (arith, same, c.evaluate_all.ensures.steps)

pub returns-clause-spent : goal.returns-clause-spent
returns-clause-spent g c =
    let same = length_permutation c.args.nodes.items c.in_ok-layers.layers.nodes.items c.in_ok-layers.ensures.same in
    answered _ _ (λ spent. spent ∙ ap (λ count. c.args.steps.now + count) same) c.evaluate_all.result c.evaluate_all.ensures.spent
