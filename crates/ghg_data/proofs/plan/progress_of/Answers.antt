use Rattle.std.proofs.Common.{◌≡◌, inl, inr, Some, suc, ◌+◌, List, ◌∷◌, drop, map, arith, add-one, ◌∙◌, ap, sym, subst}
use Rattle.std.specs.List.{AllByRecursion}
use Rattle.ghg_units.specs.declared.row.Row.{Row}
use Rattle.ghg_units.specs.WellFormed.{IsWellFormed}
use Rattle.ghg_definitions.specs.declared.record.RecordKey.{RecordKey}
use Rattle.ghg_definitions.specs.Listed.{IsListed}
use Rattle.ghg_definitions.specs.Rows.{key_of}
use Rattle.ghg_definitions.specs.Rules.{row_fault, rows_applied}
use Rattle.ghg_data.specs.Changes.{applied}
use Rattle.ghg_data.specs.Refusal.{IfRule}
use Rattle.ghg_data.proofs.Changed.{row_listed}
use Rattle.ghg_data.proofs.InTurn.{drop_row, on_err, row_passed, rule_first}
use Rattle.ghg_data.proofs.plan.progress_of.Goals as goal

pub returns-in_err-add_row-clause-applied : goal.returns-in_err-add_row-clause-applied
returns-in_err-add_row-clause-applied c =
    let m = c.args.holdings.now.content in
    let n = applied m c.loop-row.progress.edits in
    let rows = c.args.rows.now in
    let i = c.loop-row.row-index in
    let row = c.row-item.result in
    let so_far = c.loop-row.invariant.4 ∙ ap (rows_applied n) (drop_row rows i row c.loop-row-test.true c.row-item.is) in
    on_err c.from_residual-in_err-add_row.result _ _ _ c.from_residual-in_err-add_row.ensures.1
    (λ x e. rule_first m n rows row (drop (suc i) rows) so_far x (subst (λ y. IfRule (λ rule. row_fault n row ≡ Some rule) y) (sym e) c.in_err-add_row.ensures.fault))

pub loop-row-preserved : goal.loop-row-preserved
loop-row-preserved c =
    let m = c.args.holdings.now.content in
    let n = applied m c.loop-row.progress.edits in
    let rows = c.args.rows.now in
    let i = c.loop-row.row-index in
    let row = c.row-item.result in
    let added = c.in_ok-add_row.ensures in
    let rest : drop i rows ≡ row ∷ drop (i + 1) rows = rw add-one (drop_row rows i row c.loop-row-test.true c.row-item.is) in
    let keys : List RecordKey = map (λ (r : Row). key_of r.form) rows in (
      added.consistent,
      added.records,
      omega arith,
      (subst (AllByRecursion IsWellFormed) rest c.loop-row.invariant.3).1,
      row_passed m n rows row (drop (i + 1) rows) (applied m c.add_row.new.progress.edits) (c.loop-row.invariant.4 ∙ ap (rows_applied n) rest) added.fault added.added,
      omega (arith, added.keys.few),
      λ k changed. elim (added.keys.keys k changed) [
        | inl same ↦ subst (λ (q : RecordKey). IsListed q keys) (sym same) (row_listed rows i row c.loop-row-test.true c.row-item.is)
        | inr before ↦ c.loop-row.invariant.6 k before
      ],
    )
