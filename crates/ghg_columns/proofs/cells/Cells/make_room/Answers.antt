use Rattle.std.proofs.Common.{sym, ◌∙◌}
use Rattle.std.specs.BTreeMap.{get}
use Rattle.ghg_columns.specs.Cells.{series_order}
use Rattle.ghg_columns.specs.Written.{column_in}
use Rattle.ghg_columns.proofs.Rooms.{both_ok, room_in_front}
use Rattle.ghg_columns.proofs.Writing.{in_front, none_in_front}
use Rattle.ghg_columns.proofs.cells.Cells.make_room.Goals as goal

pub returns-in-Some-clause-room : goal.returns-in-Some-clause-room
returns-in-Some-clause-room c =
    let w = c.args.fresh.now.values in
    let s = c.in-Some.series in
    both_ok c.make_room_in.result (room_in_front (column_in w) (get series_order w.columns) c.make_room_for.new.self c.make_room_in.new.self s w.last (in_front w s c.in-Some.is) c.in_ok-make_room_for.ensures.room) c.make_room_in.ensures.room c.make_room_in.ensures.others

pub returns-in-None-clause-room : goal.returns-in-None-clause-room
returns-in-None-clause-room c q other there = c.in_ok-make_room_for.ensures.room q other (sym (none_in_front c.args.fresh.now.values c.in-None.is q) ∙ there)
