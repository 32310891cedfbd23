use Rattle.std.proofs.Common.{◌∙◌, IfOk, Some, None, sym, ap, subst}
use Rattle.ghg_columns.specs.Overlays.{outcomes_of}
use Rattle.ghg_units.specs.declared.node.Node.TheVariants as node
use Rattle.ghg_definitions.specs.Compilation.{is_node}
use Rattle.ghg_definitions.proofs.Alike.{first_so}
use Rattle.ghg_shifts.specs.Noted.{IsOutcomeOf}
use Rattle.ghg_evaluation.specs.Evaluation.{IsReady}
use Rattle.ghg_evaluation.proofs.Answered.{if_ok}
use Rattle.ghg_evaluation.proofs.Ready.{of_formula}
use Rattle.ghg_evaluation.proofs.reader.evaluate.Goals as goal

pub line-requires-clause-workbook : goal.line-requires-clause-workbook
line-requires-clause-workbook g c = c.requires.change.workbook

pub line-requires-clause-present : goal.line-requires-clause-present
line-requires-clause-present g c = first_so _ _ (ap (is_node (g.R.Records.content c.args.reader.now)) (sym c.in-Line.is) ∙ c.requires.node)

pub returns-in-Line-clause-outcome : goal.returns-in-Line-clause-outcome
returns-in-Line-clause-outcome g c =
    let old = g.C.Cells.content c.args.before.now in
    let m = g.R.Records.content c.args.reader.now in
    let cells = outcomes_of c.args.cells.now in
    let n = node.Line c.in-Line.name c.in-Line.year in
    subst (λ k. IfOk c.line.result (IsOutcomeOf m k)) (sym c.in-Line.is)
    (if_ok c.line.result (of_formula old m cells c.args.shifts.now n (subst (IsReady old m cells c.args.shifts.now) c.in-Line.is c.requires)) c.line.ensures.evaluated)

pub returns-in-Equiv-clause-outcome : goal.returns-in-Equiv-clause-outcome
returns-in-Equiv-clause-outcome g c =
    let old = g.C.Cells.content c.args.before.now in
    let m = g.R.Records.content c.args.reader.now in
    let cells = outcomes_of c.args.cells.now in
    let n = node.Equiv c.in-Equiv.name c.in-Equiv.year in
    subst (λ k. IfOk c.equivalent.result (IsOutcomeOf m k)) (sym c.in-Equiv.is)
    (if_ok c.equivalent.result (of_formula old m cells c.args.shifts.now n (subst (IsReady old m cells c.args.shifts.now) c.in-Equiv.is c.requires)) c.equivalent.ensures.evaluated)

pub returns-in-Total-clause-outcome : goal.returns-in-Total-clause-outcome
returns-in-Total-clause-outcome g c =
    c.total.ensures (g.R.Records.content c.args.reader.now) c.requires.change (c.requires.shifts_are (Some c.in-Total.top) c.in-Total.year c.in-Total.is) c.requires.node

pub returns-in-Gross-clause-outcome : goal.returns-in-Gross-clause-outcome
returns-in-Gross-clause-outcome g c =
    c.total-in-Gross.ensures (g.R.Records.content c.args.reader.now) c.requires.change (c.requires.shifts_are None c.in-Gross.year c.in-Gross.is) c.requires.node
