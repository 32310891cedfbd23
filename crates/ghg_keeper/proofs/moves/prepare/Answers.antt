use Rattle.std.proofs.lemmas.Result.{err_from_is_err_and}
use Rattle.std.proofs.Common.{inl, inr, refl}
use Rattle.sqlite.specs.Held.{state}
use Rattle.ghg_keeper.specs.Moving.{CommitsList}
use Rattle.ghg_keeper.proofs.Moving.{keeps_trans, list_then}
use Rattle.ghg_keeper.proofs.moves.prepare.Goals as goal

pub returns-clause-survives : goal.returns-clause-survives
returns-clause-survives g c =
    let mid = state g.S.Store c.make_tables.new.connection in
    list_then (state g.S.Store c.args.connection.now) mid (state g.S.Store c.empty_first.new.connection) (CommitsList mid) c.make_tables.ensures.keeps (λ h t. c.in_ok-make_tables.ensures.told h t) (λ h t db made. made)
    c.make_tables.ensures.survives c.empty_first.ensures.survives

pub returns-in_err-make_tables-clause-runs : goal.returns-in_err-make_tables-clause-runs
returns-in_err-make_tables-clause-runs g c =
    let p = err_from_is_err_and c.from_residual.result c.from_residual.ensures.1 in
    rw (p.1, p.2) (inl (c.in_err-make_tables.field-0.0, c.in_err-make_tables.ensures.runs, refl))

pub returns-clause-runs : goal.returns-clause-runs
returns-clause-runs g c = inr (c.in_ok-make_tables.field-0, c.make_tables.new.connection, c.in_ok-make_tables.ensures.runs, c.empty_first.ensures.runs)

pub returns-clause-keeps : goal.returns-clause-keeps
returns-clause-keeps g c =
    keeps_trans (state g.S.Store c.args.connection.now) (state g.S.Store c.make_tables.new.connection) (state g.S.Store c.empty_first.new.connection) c.make_tables.ensures.keeps
    (λ h. (c.make_tables.ensures.rest h).autocommit) c.empty_first.ensures.keeps
