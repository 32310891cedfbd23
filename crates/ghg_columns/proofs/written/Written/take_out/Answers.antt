use Rattle.std.proofs.Common.{◌==◌, cond, Some, sym, ap, ◌∙◌}
use Rattle.std.specs.BTreeMap.{get}
use Rattle.ghg_columns.specs.Cells.{series_order, value_at}
use Rattle.ghg_columns.proofs.Rooms.{if_ok}
use Rattle.ghg_columns.proofs.Writing.{is_behind, others_still}
use Rattle.ghg_columns.proofs.written.Written.take_out.Goals as goal

pub returns-in_default-clause-others : goal.returns-in_default-clause-others
returns-in_default-clause-others c q apart =
    let w = c.args.self.now in
    others_still w c.args.series.now (get series_order w.columns q) (get series_order c.remove.new.self q) q apart (c.remove.ensures.updates.0 q)

pub returns-in_err-put-clause-others : goal.returns-in_err-put-clause-others
returns-in_err-put-clause-others c q apart =
    let w = c.args.self.now in
    others_still w c.args.series.now (get series_order w.columns q) (get series_order c.remove.new.self q) q apart (c.remove.ensures.updates.0 q)

pub returns-clause-others : goal.returns-clause-others
returns-clause-others c q apart =
    let w = c.args.self.now in
    others_still w c.args.series.now (get series_order w.columns q) (get series_order c.remove.new.self q) q apart (c.remove.ensures.updates.0 q)

pub returns-in_default-clause-values : goal.returns-in_default-clause-values
returns-in_default-clause-values c =
    let absent = is_behind c.args.self.now c.args.series.now c.requires ∙ sym c.remove.ensures.value ∙ c.in_default.is in
    if_ok c.of.result (λ column is y. is y ∙ ap (λ o. cond (y == c.args.year) (Some c.args.value) (value_at o y)) (sym absent)) c.of.ensures

pub returns-clause-values : goal.returns-clause-values
returns-clause-values c y =
    let found = is_behind c.args.self.now c.args.series.now c.requires ∙ sym c.remove.ensures.value ∙ c.in-Some.is in
    c.in_ok-put.ensures y ∙ ap (λ o. cond (y == c.args.year) (Some c.args.value) (value_at o y)) (sym found)
