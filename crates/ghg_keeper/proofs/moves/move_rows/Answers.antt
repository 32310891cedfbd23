use Rattle.ghg_keeper.specs.Course.{MovesAll}
use Rattle.ghg_keeper.proofs.Course.{is_closed, rolls_back, rolls_none}
use Rattle.std.proofs.lemmas.Result.{err_from_is_err_and}
use Rattle.std.proofs.Common.{inl, inr, is_err, refl, rules, sym, ◌∙◌}
use Rattle.sqlite.specs.Held.{state}
use Rattle.ghg_keeper.specs.Moving.{CommitsMove}
use Rattle.ghg_keeper.proofs.Moving.{move_survives, never_both, none_is, none_last}
use Rattle.ghg_keeper.proofs.moves.move_rows.Goals.{else-is_err-via-then-is_err+else-not-is_autocommit, else-is_err-via-else-is_err}
use Rattle.ghg_keeper.proofs.moves.move_rows.Goals as goal

pub returns-in_err-begin-clause-survives : goal.returns-in_err-begin-clause-survives
returns-in_err-begin-clause-survives g c = none_is (state g.S.Store c.args.connection.now) (state g.S.Store c.begin.new.connection) _ c.begin.ensures.survives

pub returns-then-not-is_autocommit-clause-survives : goal.returns-then-not-is_autocommit-clause-survives
returns-then-not-is_autocommit-clause-survives g c =
    let old = state g.S.Store c.args.connection.now in
    let mid = state g.S.Store c.begin.new.connection in
    let end = state g.S.Store c.move_all-moved.new.connection in
    none_last old end (state g.S.Store c.roll_back.new.connection) (CommitsMove c.args.count old.committed)
    (move_survives c.args.count old mid end c.begin.ensures.within (λ h. c.in_ok-begin.ensures.begun h) c.begin.ensures.survives c.move_all-moved.ensures.survives) c.roll_back.ensures.survives

pub returns-else-is_err-clause-survives : goal.returns-else-is_err-clause-survives
returns-else-is_err-clause-survives g c =
    move_survives c.args.count (state g.S.Store c.args.connection.now) (state g.S.Store c.begin.new.connection) (state g.S.Store c.move_all-moved.new.connection)
    c.begin.ensures.within (λ h. c.in_ok-begin.ensures.begun h) c.begin.ensures.survives c.move_all-moved.ensures.survives

pub returns-in_err-begin-clause-runs : goal.returns-in_err-begin-clause-runs
returns-in_err-begin-clause-runs g c =
    let p = err_from_is_err_and c.from_residual.result c.from_residual.ensures.1 in
    rw (p.1, p.2) (inl (c.in_err-begin.field-0.0, c.in_err-begin.ensures.runs, refl))

pub returns-then-not-is_autocommit-clause-runs : goal.returns-then-not-is_autocommit-clause-runs
returns-then-not-is_autocommit-clause-runs g c =
    inr (
      c.in_ok-begin.field-0,
      c.begin.new.connection,
      c.in_ok-begin.ensures.runs,
      rolls_back g.S.Store (MovesAll g.S.Store c.args.count) c.begin.new.connection c.move_all-moved.new.connection c.roll_back.new.connection c.move_all-moved.result c.roll_back.result (sym c.if-is_err.ensures.value) c.move_all-moved.ensures.runs c.roll_back.ensures.runs,
    )

pub returns-else-is_err-clause-runs : goal.returns-else-is_err-clause-runs
returns-else-is_err-clause-runs g c =
    inr (
      c.in_ok-begin.field-0,
      c.begin.new.connection,
      c.in_ok-begin.ensures.runs,
      rolls_none g.S.Store (MovesAll g.S.Store c.args.count) c.begin.new.connection c.move_all-moved.new.connection c.move_all-moved.result c.move_all-moved.ensures.runs
          (λ failed. elim c.else-is_err.branch [
            | else-is_err-via-then-is_err+else-not-is_autocommit w ↦ is_closed w.is_autocommit.result (state g.S.Store c.move_all-moved.new.connection).in_transaction (search rules) w.is_autocommit.ensures.value
            | else-is_err-via-else-is_err w ↦ never_both (is_err c.move_all-moved.result) failed (sym c.is_err.ensures.value ∙ w.if-is_err.false)
          ]),
    )
