use Rattle.ghg_keeper.proofs.Course.{counts_row}
use Rattle.std.proofs.lemmas.Result.{err_from_is_err_and}
use Rattle.std.proofs.Common.{[], inl}
use Rattle.ghg_keeper.specs.Texts.{first_count_text}
use Rattle.ghg_keeper.proofs.Files.{on_ok}
use Rattle.ghg_keeper.proofs.Texts.{first_count_parses}
use Rattle.ghg_keeper.proofs.Meanings.{counts}
use Rattle.ghg_keeper.proofs.Selects.{first_count_parts}
use Rattle.ghg_keeper.specs.Accepted.{accepted}
use Rattle.ghg_keeper.proofs.Effects.{after_read, answered}
use Rattle.ghg_keeper.proofs.Moving.{size_of}
use Rattle.ghg_keeper.proofs.Safe.{read_survives}
use Rattle.sqlite.specs.Held.{state}
use Rattle.ghg_keeper.proofs.moves.count_first.Goals as goal

pub returns-in_err-row-clause-left : goal.returns-in_err-row-clause-left
returns-in_err-row-clause-left g c clean = after_read (state g.S.Store c.args.connection.now) (state g.S.Store c.query_row.new.self) first_count_text [] c.query_row.result first_count_parses (c.query_row.ensures.row clean)

pub returns-clause-left : goal.returns-clause-left
returns-clause-left g c clean = after_read (state g.S.Store c.args.connection.now) (state g.S.Store c.query_row.new.self) first_count_text [] c.query_row.result first_count_parses (c.query_row.ensures.row clean)

pub returns-clause-same : goal.returns-clause-same
returns-clause-same g c clean = on_ok c.kept_count.result (answered (state g.S.Store c.args.connection.now) (state g.S.Store c.query_row.new.self) first_count_text [] _ first_count_parses (c.in_ok-row.ensures.row clean))

pub returns-clause-size : goal.returns-clause-size
returns-clause-size g c clean both =
    size_of c.kept_count.result _ _ c.kept_count.ensures.count (counts first_count_text accepted first_count_parses first_count_parts (state g.S.Store c.args.connection.now) (state g.S.Store c.query_row.new.self) _ both.first (c.in_ok-row.ensures.row clean))

pub returns-in_err-row-clause-survives : goal.returns-in_err-row-clause-survives
returns-in_err-row-clause-survives g c = read_survives (state g.S.Store c.args.connection.now) (state g.S.Store c.query_row.new.self) first_count_text [] first_count_parses c.query_row.ensures.survives

pub returns-clause-survives : goal.returns-clause-survives
returns-clause-survives g c = read_survives (state g.S.Store c.args.connection.now) (state g.S.Store c.query_row.new.self) first_count_text [] first_count_parses c.query_row.ensures.survives

pub returns-in_err-row-clause-runs : goal.returns-in_err-row-clause-runs
returns-in_err-row-clause-runs g c =
    let p = err_from_is_err_and c.from_residual.result c.from_residual.ensures.1 in
    rw (p.1, p.2) (inl c.in_err-row.ensures.row)

pub returns-clause-runs : goal.returns-clause-runs
returns-clause-runs g c = counts_row g.S.Store first_count_text c.args.connection.now c.query_row.new.self c.in_ok-row.row c.kept_count.result c.in_ok-row.ensures.row c.kept_count.ensures.count c.kept_count.ensures.none
