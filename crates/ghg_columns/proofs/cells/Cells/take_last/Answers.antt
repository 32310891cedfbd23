use Rattle.std.proofs.Common.{sym, ap, ◌∙◌}
use Rattle.std.specs.BTreeMap.{get}
use Rattle.std.specs.Option.{option_or}
use Rattle.ghg_columns.specs.Cells.{column_of, series_order, value_at, value_of_series}
use Rattle.ghg_columns.specs.Written.{column_in}
use Rattle.ghg_columns.proofs.Rooms.{rooms_still, values_still}
use Rattle.ghg_columns.proofs.Writing.{last_found, none_in_front, others_are}
use Rattle.ghg_columns.proofs.cells.Cells.take_last.Goals as goal

pub take_column-requires : goal.take_column-requires
take_column-requires c = c.requires c.in-Some.series c.args.fresh.last (last_found c.args.fresh c.in-Some.series c.in-Some.is)

pub returns-in_default-clause-room : goal.returns-in_default-clause-room
returns-in_default-clause-room c q other there = c.requires q other (none_in_front c.args.fresh c.in_default.is q ∙ there)

pub returns-in_default-clause-values : goal.returns-in_default-clause-values
returns-in_default-clause-values c s y = ap (λ o. option_or (value_at o y) (value_of_series (column_of c.args.self.now) s y)) (sym (none_in_front c.args.fresh c.in_default.is s))

pub returns-clause-room : goal.returns-clause-room
returns-clause-room c =
    let w = c.args.fresh in
    let s = c.in-Some.series in
    let left = get series_order c.remove.new.self in
    rooms_still (column_in w) left c.args.self.now c.take_column.new.self s w.last (last_found w s c.in-Some.is) (λ q. others_are w s c.in-Some.is q (left q) (c.remove.ensures.updates.0 q)) c.take_column.ensures.others c.requires

pub returns-clause-values : goal.returns-clause-values
returns-clause-values c =
    let w = c.args.fresh in
    let s = c.in-Some.series in
    let left = get series_order c.remove.new.self in
    values_still (column_in w) left c.args.self.now c.take_column.new.self s w.last (last_found w s c.in-Some.is) (λ q. others_are w s c.in-Some.is q (left q) (c.remove.ensures.updates.0 q)) c.take_column.ensures.values
