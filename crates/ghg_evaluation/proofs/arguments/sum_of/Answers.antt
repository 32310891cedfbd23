use Rattle.std.proofs.Common.{◌∙◌, sym, ap, subst}
use Rattle.ghg_cell.specs.Totals.{sum_within}
use Rattle.ghg_columns.specs.Overlays.{outcomes_of}
use Rattle.ghg_evaluation.specs.Arguments.{AreParts, lines_in}
use Rattle.ghg_evaluation.proofs.Held.{sum_beyond, sum_taken}
use Rattle.ghg_evaluation.proofs.arguments.sum_of.Goals as goal

pub returns-in-Ok : goal.returns-in-Ok
returns-in-Ok c =
    let ns = lines_in c.args.names.now c.args.year in
    let parts = c.gather_lines.new.parts.items in
    let are = subst (AreParts (outcomes_of c.args.cells.now) ns parts) c.if-not-branch.false c.in_ok-gather_lines.ensures in
    sum_taken (outcomes_of c.args.cells.now) ns parts c.in-Ok.input c.of.result are (ap sum_within (sym c.deref.ensures.value) ∙ sym c.in-Ok.ensures) c.of.ensures

pub returns-in-Err : goal.returns-in-Err
returns-in-Err c =
    let ns = lines_in c.args.names.now c.args.year in
    let parts = c.gather_lines.new.parts.items in
    let are = subst (AreParts (outcomes_of c.args.cells.now) ns parts) c.if-not-branch.false c.in_ok-gather_lines.ensures in
    sum_beyond (outcomes_of c.args.cells.now) ns parts c.in-Err.field-0 are (ap sum_within (sym c.deref.ensures.value) ∙ sym c.in-Err.ensures)
