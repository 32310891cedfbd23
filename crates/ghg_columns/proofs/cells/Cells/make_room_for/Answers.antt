use Rattle.std.proofs.Common.{rules, List, subst, ◌∙◌}
use Rattle.std.specs.Borrow.{Bor}
use Rattle.std.specs.BTreeMap.{get}
use Rattle.std.specs.Map.Iter.{deref_pair}
use Rattle.std.proofs.lemmas.Map.Iter.{btree_map_turn, rest_more}
use Rattle.ghg_columns.specs.declared.column.Column.{Column}
use Rattle.ghg_columns.specs.declared.series.Series.{Series}
use Rattle.ghg_columns.specs.Cells.{series_order}
use Rattle.ghg_columns.proofs.Places.{series_total}
use Rattle.ghg_columns.proofs.Rooms.{HasRoomBut, one_more}
use Rattle.ghg_columns.proofs.cells.Cells.make_room_for.Goals as goal

pub loop-series-preserved : goal.loop-series-preserved
loop-series-preserved c =
    let fresh = get series_order c.args.columns.now in
    let old = c.loop-series.self in
    let new = c.make_room_in.new.self in
    let rest = c.next.new.self in
    let item : Bor Series × Bor Column = (c.in-Some.series, c.in-Some.column) in
    let s = c.in-Some.series.now in
    let column = c.in-Some.column.now in
    let more = rest_more deref_pair c.loop-series.series-iterator rest c.next.result item c.in-Some.is c.next.ensures.steps in
    let turn = btree_map_turn deref_pair c.loop-series.yielded c.into_iter-series-iterator.result c.loop-series.series-iterator rest c.next.result item c.loop-series.yielded_by c.in-Some.is c.next.ensures.steps series_total c.args.columns.now (search rules) (search rules) in (
      c.in_ok-make_room_in.ensures.same ∙ c.loop-series.invariant.0,
      one_more fresh old new s column rest turn.1 c.in_ok-make_room_in.ensures.room c.in_ok-make_room_in.ensures.others (subst (λ (es : List (Series × Column)). HasRoomBut old fresh es) more c.loop-series.invariant.1),
    )
