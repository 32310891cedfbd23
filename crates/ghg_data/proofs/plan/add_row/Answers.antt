use Rattle.std.proofs.Common.{◌≡◌, None, ap, sym, subst, ◌∙◌}
use Rattle.ghg_definitions.specs.Rows.{after_row, with_record}
use Rattle.ghg_definitions.specs.Rules.{row_fault}
use Rattle.ghg_definitions.specs.Sound.{IsConsistent}
use Rattle.ghg_definitions.proofs.Consistent.{row_keeps}
use Rattle.std.specs.FinMap.{len}
use Rattle.ghg_data.specs.Counts.{count_after}
use Rattle.ghg_data.proofs.Counts.{row_counted}
use Rattle.ghg_data.specs.Changes.{applied}
use Rattle.ghg_data.proofs.plan.add_row.Goals as goal

pub returns-clause-consistent : goal.returns-clause-consistent
returns-clause-consistent c =
    let m = applied c.args.holdings.now.content c.args.progress.now.edits in
    let none : row_fault m c.args.row.now ≡ None = ap (λ n. row_fault n c.args.row.now) (sym c.of.ensures) ∙ sym c.row_fault.ensures ∙ c.in_default.is in
    let added : applied c.args.holdings.now.content c.put.new.self ≡ after_row m c.args.row.now =
    c.in_ok-put.ensures.ok c.args.holdings.now.content ∙ (λ i. with_record m (c.key_of.ensures i) (c.in_ok-change.ensures i)) in
    subst IsConsistent (sym added) (row_keeps c.requires.consistent c.args.row.now c.requires.well_formed none)

pub returns-clause-records : goal.returns-clause-records
returns-clause-records c =
    let m = applied c.args.holdings.now.content c.args.progress.now.edits in
    let row = c.args.row.now in
    let none : row_fault m row ≡ None = ap (λ n. row_fault n row) (sym c.of.ensures) ∙ sym c.row_fault.ensures ∙ c.in_default.is in
    let added : applied c.args.holdings.now.content c.put.new.self ≡ after_row m row =
    c.in_ok-put.ensures.ok c.args.holdings.now.content ∙ (λ i. with_record m (c.key_of.ensures i) (c.in_ok-change.ensures i)) in
    c.count_after-progress.ensures ∙ ap (count_after row.act) c.requires.records ∙ sym (ap len added ∙ row_counted m row c.requires.well_formed none)
