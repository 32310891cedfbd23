use Rattle.std.proofs.Common.{arith, ◌∙◌}
use Rattle.std.proofs.lemmas.Result.{err_from_is_err_and}
use Rattle.ghg_outer.proofs.Counts.{count_stays}
use Rattle.ghg_office.proofs.Replayed.{all_had, counted_after, counted_fault, one_more, replayed_in_force, spent_more, stops_at_count, stops_at_row, stops_between, taken_accepts}
use Rattle.ghg_office.proofs.office.Office.reopen.Goals as goal

pub returns-in_err-count-clause-replays : goal.returns-in_err-count-clause-replays
returns-in_err-count-clause-replays g c =
    let p = err_from_is_err_and c.from_residual.result c.from_residual.ensures.1 in
    rw (p.1, p.2) (stops_at_count (g.K.Keeper.shelf c.args.keeper.now) (g.K.Keeper.shelf c.count.new.self) c.args.steps.now c.in_err-count.field-0.0 c.count.ensures.keeps)

pub returns-in_err-row-clause-replays : goal.returns-in_err-row-clause-replays
returns-in_err-row-clause-replays g c =
    let p = err_from_is_err_and c.from_residual-in_err-row.result c.from_residual-in_err-row.ensures.1 in
    rw (p.1, p.2) (stops_between (g.K.Keeper.shelf c.args.keeper.now) (g.K.Keeper.shelf c.loop-done.keeper) (g.K.Keeper.shelf c.row.new.self)
    c.loop-done.done c.args.steps.now c.loop-done.steps c.loop-done.office c.in_err-row.field-0.0 c.loop-done.invariant.progress c.row.ensures.keeps c.loop-done.invariant.spent)

pub returns-in_err-row-clause-faults : goal.returns-in_err-row-clause-faults
returns-in_err-row-clause-faults g c =
    let p = err_from_is_err_and c.from_residual-in_err-row.result c.from_residual-in_err-row.ensures.1 in
    rw (p.1, p.2) (counted_fault (g.K.Keeper.shelf c.args.keeper.now).faults (g.K.Keeper.shelf c.loop-done.keeper).faults (g.K.Keeper.shelf c.row.new.self).faults
    c.in_err-row.field-0.0 c.loop-done.invariant.progress.faults c.in_err-row.ensures.faults)

pub returns-in_err-replay-clause-faults : goal.returns-in_err-replay-clause-faults
returns-in_err-replay-clause-faults g c =
    let p = err_from_is_err_and c.from_residual-in_err-replay.result c.from_residual-in_err-replay.ensures.1 in
    let same = count_stays _ _ _ (λ e. cc) c.in_ok-row.ensures.faults ∙ c.loop-done.invariant.progress.faults in
    rw (p.1, p.2) (counted_after _ _ _ c.replay.new.self c.in_err-replay.field-0.0 same c.in_err-replay.ensures.takes)

pub returns-in_err-replay-clause-replays : goal.returns-in_err-replay-clause-replays
returns-in_err-replay-clause-replays g c =
    let p = err_from_is_err_and c.from_residual-in_err-replay.result c.from_residual-in_err-replay.ensures.1 in
    rw (p.1, p.2) (stops_at_row (g.K.Keeper.shelf c.args.keeper.now) (g.K.Keeper.shelf c.loop-done.keeper) (g.K.Keeper.shelf c.row.new.self)
    c.loop-done.done c.args.steps.now c.loop-done.steps c.replay.new.steps c.loop-done.office c.replay.new.self c.in_ok-row.row c.in_err-replay.field-0.0
    c.loop-done.invariant.progress c.row.ensures.keeps c.in_ok-row.ensures.told c.in_ok-row.ensures.row c.in_err-replay.ensures.takes c.loop-done.invariant.spent c.replay.ensures.steps)

pub loop-done-preserved : goal.loop-done-preserved
loop-done-preserved g c =
    let before = c.loop-done.invariant in
    let accepts = taken_accepts _ c.loop-done.office c.replay.new.self c.in_ok-row.row c.in_ok-replay.ensures.takes in
    record {
      progress = one_more (g.K.Keeper.shelf c.args.keeper.now) (g.K.Keeper.shelf c.loop-done.keeper) (g.K.Keeper.shelf c.row.new.self)
          c.loop-done.done c.loop-done.office c.replay.new.self c.in_ok-row.row before.progress c.row.ensures.keeps c.in_ok-row.ensures.told (count_stays _ _ _ (λ e. cc) c.in_ok-row.ensures.faults)
          c.in_ok-row.ensures.row c.in_ok-replay.ensures.takes;
      count = λ told. before.count (c.row.ensures.keeps.rows.told told);
      spent = rw accepts.1 (spent_more c.args.steps.now c.loop-done.steps c.replay.new.steps c.loop-done.office.accepted c.loop-done.office c.in_ok-row.row
          before.progress.reached before.spent c.replay.ensures.steps);
    }

pub returns-clause-replays : goal.returns-clause-replays
returns-clause-replays g c = (
  c.loop-done.office.accepted,
  all_had (g.K.Keeper.shelf c.args.keeper.now) (g.K.Keeper.shelf c.loop-done.keeper) c.loop-done.done c.loop-done.office c.loop-done.invariant.progress
      (λ told. omega (arith, c.loop-done.invariant.count told)),
  c.loop-done.invariant.progress.reached,
  c.loop-done.invariant.spent,
)

pub returns-clause-in_force : goal.returns-clause-in_force
returns-clause-in_force g c = replayed_in_force c.loop-done.office c.loop-done.invariant.progress.reached
