use Rattle.std.proofs.Common.{◌∙◌, ap, sym, subst}
use Rattle.ghg_cell.specs.Totals.{reported}
use Rattle.ghg_shifts.specs.Sums.{AreInOrder}
use Rattle.ghg_shifts.proofs.Totals.{in_order, total_passed_on, total_shifted}
use Rattle.ghg_shifts.proofs.shifts.Shifts.total.Goals as goal

pub returns-then-counted : goal.returns-then-counted
returns-then-counted c old new change are was there =
    total_passed_on old new change c.args.year c.args.self.now c.args.top are there c.args.kept.now was c.counted-counted.result c.counted-counted.ensures
    c.if-counted.true c.passed_on.result c.passed_on.ensures.outcome c.passed_on.ensures.breaks

pub returns : goal.returns
returns c old new change are was there =
    let order = in_order old new change c.args.year c.args.self.now c.args.top are there c.args.kept.now was c.counted-counted.result c.counted-counted.ensures in
    let value = c.total.ensures (subst AreInOrder (sym c.exchanged-figures.ensures) order) in
    total_shifted old new change c.args.year c.args.self.now c.args.top are there c.args.kept.now was c.counted-counted.result c.counted-counted.ensures
    c.if-counted.false c.of.result c.total.result (value ∙ ap reported c.exchanged-figures.ensures) c.of.ensures.outcome c.of.ensures.breaks
