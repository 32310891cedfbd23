use Rattle.std.proofs.Common.{cond, Some, sym, ap, ◌∙◌}
use Rattle.std.specs.BTreeMap.{get, is_at}
use Rattle.std.specs.Option.{option_copied_mut}
use Rattle.ghg_columns.specs.Cells.{column_of, series_order, value_at}
use Rattle.ghg_columns.proofs.Cellwise.{as_they_were}
use Rattle.ghg_columns.proofs.Rooms.{some_is}
use Rattle.ghg_columns.proofs.Slots.{none_in}
use Rattle.ghg_columns.proofs.cells.Cells.make_room_in.Goals as goal

pub returns-in-Some-clause-same : goal.returns-in-Some-clause-same
returns-in-Some-clause-same c =
    let old = c.args.self.now in
    let before = c.in-Some.column.now in
    let after = c.make_room.new.self in
    let found = sym c.get_mut.ensures.value ∙ ap option_copied_mut c.in-Some.is in
    let updates = ((c.get_mut.follows.holds after).3 (some_is _ before found)).0 in
    as_they_were (column_of old) (column_of (record old { columns = c.get_mut.follows.lender after })) c.args.series.now (Some after) updates (λ y. c.make_room.ensures.values y ∙ ap (λ o. value_at o y) (sym found))

pub returns-clause-same : goal.returns-clause-same
returns-clause-same c =
    let old = c.args.self.now in
    let none = c.new.result in
    let absent = sym c.get_mut.ensures.value ∙ ap option_copied_mut c.in_default.is in
    as_they_were (column_of old) (column_of (record old { columns = c.insert.new.self })) c.args.series.now (Some none)
    (λ q. c.in_ok-insert.ensures.updates.0 q ∙ ap (λ m. cond (is_at (series_order c.args.series.now) q) (Some none) (get series_order m q)) c.get_mut.follows.holds-at-none)
    (λ y. none_in none.first none.slots.items c.new.ensures y ∙ ap (λ o. value_at o y) (sym absent))
