use Rattle.std.proofs.Common.{Err, Ok, sym, ap, ◌∙◌}
use Rattle.ghg_definitions.specs.Formulas.{Outcome}
use Rattle.ghg_columns.specs.Cells.{cells_in, found_in, with_outcome}
use Rattle.ghg_columns.specs.Written.{column_in}
use Rattle.ghg_columns.specs.Fresh.{over_at}
use Rattle.ghg_columns.proofs.Overs.{one_over, put_in_front, put_through}
use Rattle.ghg_columns.proofs.Rooms.{on_ok}
use Rattle.ghg_columns.proofs.fresh.FreshCells.insert.Goals as goal

pub returns-in-Ok : goal.returns-in-Ok
returns-in-Ok c =
    let values = cells_in (column_in c.args.self.now.values) in
    let over = over_at c.args.self.now.over in
    let n = c.args.node.now in
    let x : Outcome = Ok c.in-Ok.value in
    on_ok c.put.result (λ put. ap (λ front. found_in front over) put ∙ put_in_front values over n x ∙ ap (with_outcome (found_in values over) n) (sym c.in-Ok.is)) c.put.ensures

pub returns-in_ok-insert-in-Err : goal.returns-in_ok-insert-in-Err
returns-in_ok-insert-in-Err c =
    let values = cells_in (column_in c.args.self.now.values) in
    let over = over_at c.args.self.now.over in
    let n = c.args.node.now in
    let x : Outcome = Err (record {}) in
    ap (found_in values) (one_over c.args.self.now.over c.insert.new.self n c.in_ok-insert-in-Err.ensures.updates.0)
    ∙ put_through values over n x c.requires ∙ ap (with_outcome (found_in values over) n) (sym c.in-Err.is)
