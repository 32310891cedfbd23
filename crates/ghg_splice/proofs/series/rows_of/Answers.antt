use Rattle.std.proofs.Common.{◌≡◌, ◌∷◌, [], true, arith, length-append, rules}
use Rattle.std.specs.Result.{is_ok}
use Rattle.ghg_splice.proofs.Rows.{row_bad, row_more, rows_end}
use Rattle.ghg_splice.proofs.series.rows_of.Goals as goal

pub loop-fields-preserved : goal.loop-fields-preserved
loop-fields-preserved c =
    let pushed : is_ok c.push.result ≡ true = search rules in
    let items = rw pushed at c.push.ensures.items in
    let count = length-append c.loop-fields.rows.items (c.in-Some.row ∷ []) in
    record {
      said = row_more c.loop-fields.number c.loop-fields.after c.args.records.now c.loop-fields.fields-index c.fields-item.result c.in-Some.row c.loop-fields.rows.items c.push.new.self.items _ c.loop-fields-test.true c.fields-item.is c.in-Some.ensures.reads items c.loop-fields.invariant.said;
      counted = rw items (omega (arith, count, c.loop-fields.invariant.counted));
      few = rw items (omega (arith, count, c.loop-fields.invariant.few, c.in-Some.ensures.later.0));
      late = c.in-Some.ensures.later.1;
    }

pub returns-in_default-clause-gives : goal.returns-in_default-clause-gives
returns-in_default-clause-gives c =
    row_bad c.loop-fields.number c.loop-fields.after c.args.records.now c.loop-fields.fields-index c.fields-item.result c.loop-fields.rows.items _ c.loop-fields-test.true c.fields-item.is c.in_default.ensures.reads c.loop-fields.invariant.said

pub returns-clause-gives : goal.returns-clause-gives
returns-clause-gives c = rows_end c.loop-fields.number c.loop-fields.after c.args.records.now c.loop-fields.fields-index c.loop-fields.rows.items _ c.loop-fields-test.false c.loop-fields.invariant.said
