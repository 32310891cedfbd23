use Rattle.ghg_keeper.proofs.Course.{counts_row}
use Rattle.std.proofs.lemmas.Result.{err_from_is_err_and}
use Rattle.std.proofs.Common.{[], inl}
use Rattle.ghg_keeper.specs.Texts.{count_text}
use Rattle.ghg_keeper.proofs.Files.{on_ok}
use Rattle.ghg_keeper.proofs.Texts.{count_parses}
use Rattle.ghg_keeper.proofs.Meanings.{counts}
use Rattle.ghg_keeper.proofs.Selects.{count_parts}
use Rattle.ghg_keeper.specs.Accepted.{second}
use Rattle.ghg_keeper.proofs.Effects.{after_read, answered}
use Rattle.ghg_keeper.proofs.Moving.{size_of}
use Rattle.sqlite.specs.Held.{state}
use Rattle.ghg_keeper.proofs.moves.count_second.Goals as goal

pub returns-in_err-row-clause-left : goal.returns-in_err-row-clause-left
returns-in_err-row-clause-left g c clean = after_read (state g.S.Store c.args.connection.now) (state g.S.Store c.count_rows.new.connection) count_text [] c.count_rows.result count_parses (c.count_rows.ensures.reads clean)

pub returns-clause-left : goal.returns-clause-left
returns-clause-left g c clean = after_read (state g.S.Store c.args.connection.now) (state g.S.Store c.count_rows.new.connection) count_text [] c.count_rows.result count_parses (c.count_rows.ensures.reads clean)

pub returns-clause-same : goal.returns-clause-same
returns-clause-same g c clean = on_ok c.kept_count.result (answered (state g.S.Store c.args.connection.now) (state g.S.Store c.count_rows.new.connection) count_text [] _ count_parses (c.in_ok-row.ensures.reads clean))

pub returns-clause-size : goal.returns-clause-size
returns-clause-size g c clean both =
    size_of c.kept_count.result _ _ c.kept_count.ensures.count (counts count_text second count_parses count_parts (state g.S.Store c.args.connection.now) (state g.S.Store c.count_rows.new.connection) _ both.second (c.in_ok-row.ensures.reads clean))

pub returns-in_err-row-clause-runs : goal.returns-in_err-row-clause-runs
returns-in_err-row-clause-runs g c =
    let p = err_from_is_err_and c.from_residual.result c.from_residual.ensures.1 in
    rw (p.1, p.2) (inl c.in_err-row.ensures.reads)

pub returns-clause-runs : goal.returns-clause-runs
returns-clause-runs g c = counts_row g.S.Store count_text c.args.connection.now c.count_rows.new.connection c.in_ok-row.row c.kept_count.result c.in_ok-row.ensures.reads c.kept_count.ensures.count c.kept_count.ensures.none
