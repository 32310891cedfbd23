use Rattle.ghg_keeper.specs.Accepted.{has_kept_tables}
use Rattle.std.proofs.lemmas.Result.{err_from_is_err_and}
use Rattle.std.proofs.Common.{inl, inr, refl, ap, sym, ◌∙◌}
use Rattle.sqlite.specs.Held.{state}
use Rattle.ghg_keeper.specs.Moving.{CommitsList}
use Rattle.ghg_keeper.proofs.Effects.{was_clean}
use Rattle.ghg_keeper.proofs.Moving.{keeps_trans, list_then, never_both}
use Rattle.ghg_keeper.proofs.moves.make_tables.Goals as goal

pub returns-in_err-make_second-clause-survives : goal.returns-in_err-make_second-clause-survives
returns-in_err-make_second-clause-survives g c =
    let mid = state g.S.Store c.make_first.new.connection in
    list_then (state g.S.Store c.args.connection.now) mid (state g.S.Store c.make_second.new.connection) (CommitsList mid) c.make_first.ensures.keeps
    (λ h t. c.in_ok-make_first.ensures.told h t) (λ h t db made. made) c.make_first.ensures.survives c.make_second.ensures.survives

pub returns-clause-survives : goal.returns-clause-survives
returns-clause-survives g c =
    let mid = state g.S.Store c.make_first.new.connection in
    list_then (state g.S.Store c.args.connection.now) mid (state g.S.Store c.make_second.new.connection) (CommitsList mid) c.make_first.ensures.keeps
    (λ h t. c.in_ok-make_first.ensures.told h t) (λ h t db made. made) c.make_first.ensures.survives c.make_second.ensures.survives

pub returns-then-not-has_kept_tables-clause-survives : goal.returns-then-not-has_kept_tables-clause-survives
returns-then-not-has_kept_tables-clause-survives g c =
    let mid = state g.S.Store c.make_first.new.connection in
    list_then (state g.S.Store c.args.connection.now) mid (state g.S.Store c.make_second.new.connection) (CommitsList mid) c.make_first.ensures.keeps
    (λ h t. c.in_ok-make_first.ensures.told h t) (λ h t db made. made) c.make_first.ensures.survives c.make_second.ensures.survives

pub returns-clause-told : goal.returns-clause-told
returns-clause-told g c h t =
    c.in_ok-make_second.ensures.told h (c.in_ok-make_first.ensures.told (was_clean c.make_second.ensures.survives h) t)

pub returns-in_err-make_first-clause-runs : goal.returns-in_err-make_first-clause-runs
returns-in_err-make_first-clause-runs g c =
    let p = err_from_is_err_and c.from_residual.result c.from_residual.ensures.1 in
    rw (p.1, p.2) (inl (c.in_err-make_first.field-0.0, c.in_err-make_first.ensures.runs, refl))

pub returns-in_err-make_second-clause-runs : goal.returns-in_err-make_second-clause-runs
returns-in_err-make_second-clause-runs g c =
    let p = err_from_is_err_and c.from_residual-in_err-make_second.result c.from_residual-in_err-make_second.ensures.1 in
    rw (p.1, p.2) (inr (c.in_ok-make_first.field-0, c.make_first.new.connection, c.in_ok-make_first.ensures.runs, inl (c.in_err-make_second.field-0.0, c.in_err-make_second.ensures.runs, refl)))

pub returns-then-not-has_kept_tables-clause-runs : goal.returns-then-not-has_kept_tables-clause-runs
returns-then-not-has_kept_tables-clause-runs g c = inr (c.in_ok-make_first.field-0, c.make_first.new.connection, c.in_ok-make_first.ensures.runs, inr (c.in_ok-make_second.field-0, c.make_second.new.connection, c.in_ok-make_second.ensures.runs, (refl, refl, λ has. never_both (has_kept_tables c.make_second.new.connection.schema) has (ap has_kept_tables (sym c.schema.ensures.value) ∙ sym c.has_kept_tables.ensures ∙ c.if-not-has_kept_tables.true))))

pub returns-clause-runs : goal.returns-clause-runs
returns-clause-runs g c = inr (c.in_ok-make_first.field-0, c.make_first.new.connection, c.in_ok-make_first.ensures.runs, inr (c.in_ok-make_second.field-0, c.make_second.new.connection, c.in_ok-make_second.ensures.runs, (refl, ap has_kept_tables (sym c.schema.ensures.value) ∙ sym c.has_kept_tables.ensures ∙ c.if-not-has_kept_tables.false)))

pub returns-in_err-make_second-clause-keeps : goal.returns-in_err-make_second-clause-keeps
returns-in_err-make_second-clause-keeps g c =
    keeps_trans (state g.S.Store c.args.connection.now) (state g.S.Store c.make_first.new.connection) (state g.S.Store c.make_second.new.connection) c.make_first.ensures.keeps
    (λ h. (c.make_first.ensures.rest h).autocommit) c.make_second.ensures.keeps

pub returns-then-not-has_kept_tables-clause-keeps : goal.returns-then-not-has_kept_tables-clause-keeps
returns-then-not-has_kept_tables-clause-keeps g c =
    keeps_trans (state g.S.Store c.args.connection.now) (state g.S.Store c.make_first.new.connection) (state g.S.Store c.make_second.new.connection) c.make_first.ensures.keeps
    (λ h. (c.make_first.ensures.rest h).autocommit) c.make_second.ensures.keeps

pub returns-clause-keeps : goal.returns-clause-keeps
returns-clause-keeps g c =
    keeps_trans (state g.S.Store c.args.connection.now) (state g.S.Store c.make_first.new.connection) (state g.S.Store c.make_second.new.connection) c.make_first.ensures.keeps
    (λ h. (c.make_first.ensures.rest h).autocommit) c.make_second.ensures.keeps
