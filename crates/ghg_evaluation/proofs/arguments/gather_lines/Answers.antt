use Rattle.std.proofs.Common.{◌+◌, true, take, sym, subst}
use Rattle.ghg_columns.specs.Overlays.{outcomes_of}
use Rattle.ghg_units.specs.declared.node.Node.TheVariants as node
use Rattle.ghg_evaluation.specs.Arguments.{AreParts, lines_in}
use Rattle.ghg_evaluation.proofs.Gathered.{part_more, part_over}
use Rattle.ghg_evaluation.proofs.arguments.gather_lines.Goals as goal

pub returns-in-Err : goal.returns-in-Err
returns-in-Err c =
    part_over (outcomes_of c.args.cells.now) (λ name. node.Line name c.args.year) c.args.names.now c.loop-name.name-index c.name-item.result
    c.loop-name-test.true c.name-item.is c.loop-name.parts.items c.loop-name.invariant c.loop-name.parts.items (sym c.in-Err.ensures)

pub loop-name-preserved : goal.loop-name-preserved
loop-name-preserved c =
    let cells = outcomes_of c.args.cells.now in
    let names = c.args.names.now in
    let i = c.loop-name.name-index in
    let parts = c.loop-name.parts.items in
    subst (λ ps. AreParts cells (lines_in (take (i + 1) names) c.args.year) ps true) (sym c.in_ok-push-in-Ok.ensures.items)
    (part_more cells (λ name. node.Line name c.args.year) names i c.name-item.result c.loop-name-test.true c.name-item.is parts c.loop-name.invariant c.in-Ok.input (sym c.in-Ok.ensures))
