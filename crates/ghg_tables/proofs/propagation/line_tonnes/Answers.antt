use Rattle.std.proofs.Common.{◌≤◌, arith, ap, sym, subst, to_z-of_z, unsigned_abs}
use Rattle.ghg_cell.specs.declared.input.Input.{Input}
use Rattle.ghg_uncertainty.specs.Totals.{amount_limit}
use Rattle.ghg_tables.specs.declared.precision.Precision.TheVariants.{Thousandths}
use Rattle.ghg_tables.specs.Rounding.{reported}
use Rattle.ghg_tables.specs.Sums.{point_of}
use Rattle.ghg_tables.specs.Tables.{line_tonnes}
use Rattle.ghg_tables.proofs.Amounts.{line_small}
use Rattle.ghg_tables.proofs.propagation.line_tonnes.Goals as goal

pub returns-in-Blank-clause-value : goal.returns-in-Blank-clause-value
unfolding line_tonnes reported
returns-in-Blank-clause-value g c = ap (λ (x : Input). reported Thousandths (point_of x)) c.in-Blank.ensures.value

pub returns-in-Known-clause-small : goal.returns-in-Known-clause-small
returns-in-Known-clause-small g c =
    let bound = subst (λ (x : Input). unsigned_abs (reported Thousandths (point_of x)) ≤ amount_limit) (sym c.in-Known.ensures.value) (line_small (g.C.Cells.content c.args.cells.now) c.in-Known.ensures.compiled c.args.year c.args.name.now) in
    grind (arith, to_z-of_z, bound)
