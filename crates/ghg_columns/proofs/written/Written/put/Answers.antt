use Rattle.std.proofs.Common.{◌==◌, cond, Some, refl, sym, ap₂, ◌∙◌}
use Rattle.ghg_columns.specs.Cells.{value_at}
use Rattle.ghg_columns.specs.Written.{column_in}
use Rattle.ghg_columns.proofs.Cellwise.{one_put}
use Rattle.ghg_columns.proofs.Rooms.{on_ok}
use Rattle.ghg_columns.proofs.Writing.{is_in_front, last_written, put_behind}
use Rattle.ghg_columns.proofs.written.Written.put.Goals as goal

pub returns-then-is_last : goal.returns-then-is_last
returns-then-is_last c =
    let old = c.args.self.now in
    let s = c.of-series.result in
    let x = c.args.value in
    let after = c.put.new.self in
    let is = sym c.is_last.ensures ∙ c.if-is_last.true in
    on_ok c.put.result (λ put. one_put (column_in old) (column_in (record old { last = after })) s (Some after) (last_written old after s is) c.args.node.now x (sym c.of-series.ensures)
    (λ y. put y ∙ ap₂ (λ year o. cond (y == year) (Some x) (value_at o y)) c.year_of-year.ensures (sym (is_in_front old s is)))) c.put.ensures

pub returns : goal.returns
returns c =
    let old = c.args.self.now in
    let mid = c.take_out.new.self in
    let new = c.put_last.new.self in
    let s = c.of-series.result in
    let x = c.args.value in
    let column = c.in_ok-column.column in
    on_ok c.put_last.result (λ put. one_put (column_in old) (column_in new) s (Some column) (put_behind (column_in old) (column_in mid) (column_in new) s column c.take_out.ensures.others put) c.args.node.now x (sym c.of-series.ensures)
    (λ y. c.in_ok-column.ensures.values y ∙ ap₂ (λ year o. cond (y == year) (Some x) (value_at o y)) c.year_of-year.ensures refl)) c.put_last.ensures
