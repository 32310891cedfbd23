use Rattle.std.proofs.Common.{Some, sym, ap, ◌∙◌}
use Rattle.std.specs.Option.{option_copied_mut, option_or}
use Rattle.ghg_columns.specs.Cells.{column_of, value_at}
use Rattle.ghg_columns.specs.Columns.{value_in}
use Rattle.ghg_columns.proofs.Cellwise.{values}
use Rattle.ghg_columns.proofs.Rooms.{some_is}
use Rattle.ghg_columns.proofs.cells.Cells.take_column.Goals as goal

pub returns-clause-values : goal.returns-clause-values
returns-clause-values c =
    let old = c.args.self.now in
    let fresh = c.args.fresh in
    let before = c.unwrap-column.result.now in
    let after = c.take.new.self in
    let found = sym c.get_mut.ensures.value ∙ ap option_copied_mut c.unwrap-column.ensures in
    let updates = ((c.get_mut.follows.holds after).3 (some_is _ before found)).0 in
    values (column_of old) (column_of (record old { columns = c.get_mut.follows.lender after })) c.args.series.now (Some after) updates (λ y o. option_or (value_in fresh y) o)
    (λ y. c.take.ensures y ∙ ap (λ o. option_or (value_in fresh y) (value_at o y)) (sym found))
