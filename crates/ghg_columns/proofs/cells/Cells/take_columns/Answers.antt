use Rattle.std.proofs.Common.{◌≡◌, length, sym, ap, ◌∙◌, arith}
use Rattle.std.specs.BTreeMap.{get}
use Rattle.std.specs.Option.{option_or}
use Rattle.ghg_columns.specs.Cells.{column_of, series_order, value_of_series}
use Rattle.ghg_columns.proofs.Rooms.{none_left, rooms_still, values_still}
use Rattle.ghg_columns.proofs.cells.Cells.take_columns.Goals as goal

pub loop-series-preserved : goal.loop-series-preserved
loop-series-preserved c =
    let before = get series_order c.loop-series.columns in
    let left = get series_order c.pop_first.new.self in
    let old = c.loop-series.self in
    let new = c.take_column.new.self in
    let s = c.in-Some.series in
    let taken = c.in-Some.ensures.updates.0 in (
      λ q y. values_still before left old new s c.in-Some.column c.in-Some.ensures.value taken c.take_column.ensures.values q y ∙ c.loop-series.invariant.0 q y,
      rooms_still before left old new s c.in-Some.column c.in-Some.ensures.value taken c.take_column.ensures.others c.loop-series.invariant.1,
    )

pub returns : goal.returns
returns c s y =
    let new = c.loop-series.self in
    let none : length c.loop-series.columns.entries ≡ 0 = grind (arith, c.in_default.ensures.variant, c.in_default.ensures.len) in
    ap (λ o. option_or o (value_of_series (column_of new) s y)) (sym (none_left c.loop-series.columns none s y)) ∙ c.loop-series.invariant.0 s y
