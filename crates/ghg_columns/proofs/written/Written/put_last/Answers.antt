use Rattle.std.proofs.Common.{cond, Some, sym, ap, ◌∙◌}
use Rattle.std.specs.BTreeMap.{get, is_at}
use Rattle.ghg_columns.specs.Cells.{series_order}
use Rattle.ghg_columns.proofs.Writing.{in_front, none_in_front, put_in_front}
use Rattle.ghg_columns.proofs.written.Written.put_last.Goals as goal

pub returns-in_ok-insert-in-Some : goal.returns-in_ok-insert-in-Some
returns-in_ok-insert-in-Some c q =
    let old = c.args.self.now in
    let other = c.in-Some.other in
    let new = record old { series = c.replace.new.self; last = c.replace-written.new.dest; columns = c.insert.new.self } in
    put_in_front old new c.args.series c.args.column c.replace.ensures.after c.replace-written.ensures.after q
    (in_front old other (sym c.replace.ensures.value ∙ c.in-Some.is) q
    ∙ ap (λ w. cond (is_at (series_order other) q) (Some w) (get series_order old.columns q)) (sym c.replace-written.ensures.value)
    ∙ sym (c.in_ok-insert-in-Some.ensures.updates.0 q))

pub returns-in-None : goal.returns-in-None
returns-in-None c q =
    let old = c.args.self.now in
    let new = record old { series = c.replace.new.self; last = c.replace-written.new.dest } in
    put_in_front old new c.args.series c.args.column c.replace.ensures.after c.replace-written.ensures.after q
    (none_in_front old (sym c.replace.ensures.value ∙ c.in-None.is) q)
