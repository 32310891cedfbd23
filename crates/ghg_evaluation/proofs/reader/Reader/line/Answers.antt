use Rattle.std.proofs.Common.{◌≡◌, ◌∙◌, IfOk, true, is_some, length, sym, ap, subst}
use Rattle.std.specs.List.{AllByRecursion}
use Rattle.ghg_columns.specs.Overlays.{outcomes_of}
use Rattle.ghg_equations.specs.Table.{parameters}
use Rattle.ghg_units.specs.declared.node.Node.TheVariants as node
use Rattle.ghg_definitions.specs.Compilation.{sheet_of}
use Rattle.ghg_definitions.specs.Data.{line}
use Rattle.ghg_definitions.specs.Sound.{IsWorkbook}
use Rattle.ghg_evaluation.specs.Arguments.{AreGathered, IsShort, operand_outcomes, operands_by}
use Rattle.ghg_evaluation.specs.Evaluation.{IsEvaluatedAt}
use Rattle.ghg_evaluation.specs.Kept.{copied}
use Rattle.ghg_evaluation.proofs.Facts.{are_short}
use Rattle.ghg_evaluation.proofs.Formulas.{line_evaluated, line_passed_on, taken, taken_count}
use Rattle.ghg_evaluation.proofs.reader.Reader.line.Goals as goal
use Rattle.ghg_evaluation.proofs.reader.Reader.line.Goals.{else-branch, then-branch}

pub read-requires-clause-present : goal.read-requires-clause-present
read-requires-clause-present g c = subst (λ r. is_some (line (g.R.Records.content r) c.args.name.now) ≡ true) (sym c.self.view_is) c.requires.present

pub gather-requires-clause-short : goal.gather-requires-clause-short
gather-requires-clause-short g c =
    let m = g.R.Records.content c.self.inside.records.now in
    let workbook = subst (λ r. IsWorkbook (g.R.Records.content r)) (sym c.self.view_is) c.requires.workbook in
    subst (λ bs. AllByRecursion IsShort (operands_by m c.args.year bs)) (sym (ap copied c.deref.ensures.value ∙ c.in_ok-id.ensures.bindings))
    (are_short m c.args.name.now c.args.year (parameters c.in_ok-id.id) workbook)

pub value-requires : goal.value-requires
value-requires g c fit =
    let m = g.R.Records.content c.self.inside.records.now in
    let cells = outcomes_of c.args.cells.now in
    let id = c.in_ok-id.id in
    let all = subst (λ bs. AreGathered (operand_outcomes cells (operands_by m c.args.year bs)) c.gather.new.self c.in_ok-gather.field-0)
    (ap copied c.deref.ensures.value ∙ c.in_ok-id.ensures.bindings) c.in_ok-gather.ensures.gathered in
    let held = subst (AreGathered (taken m cells c.args.name.now c.args.year id) c.gather.new.self) c.if-branch.true all in
    ap length (held.fit fit) ∙ held.count ∙ taken_count m cells c.args.name.now c.args.year id

pub returns-clause-evaluated : goal.returns-clause-evaluated
returns-clause-evaluated g c =
    let m = g.R.Records.content c.self.inside.records.now in
    let cells = outcomes_of c.args.cells.now in
    let name = c.args.name.now in
    let year = c.args.year in
    let id = c.in_ok-id.id in
    let is = c.in_ok-id.ensures.equation in
    let outs = taken m cells name year id in
    let all = subst (λ bs. AreGathered (operand_outcomes cells (operands_by m year bs)) c.gather.new.self c.in_ok-gather.field-0)
    (ap copied c.deref.ensures.value ∙ c.in_ok-id.ensures.bindings) c.in_ok-gather.ensures.gathered in
    subst (λ r. IfOk c.if-branch.result (IsEvaluatedAt (sheet_of (g.R.Records.content r)) cells (node.Line name year))) c.self.view_is
    (elim c.if-branch.branch [
      | then-branch w ↦ subst (λ x. IfOk x (IsEvaluatedAt (sheet_of m) cells (node.Line name year))) (sym w.result-is)
          (line_evaluated m cells name year id is w.of.result c.gather.new.self (subst (AreGathered outs c.gather.new.self) w.if-branch.true all)
          w.value.result w.value.ensures w.of.ensures.outcome w.of.ensures.breaks)
      | else-branch w ↦ subst (λ x. IfOk x (IsEvaluatedAt (sheet_of m) cells (node.Line name year))) (sym w.result-is)
          (line_passed_on m cells name year id is w.passed_on.result (subst (AreGathered outs c.gather.new.self) w.if-branch.false all)
          w.passed_on.ensures.outcome w.passed_on.ensures.breaks)
    ])
