use Rattle.ghg_keeper.proofs.Course.{row_runs}
use Rattle.sqlite.specs.declared.error.Error.TheVariants.{QueryReturnedNoRows}
use Rattle.std.proofs.lemmas.Result.{err_from_is_err_and}
use Rattle.std.proofs.Common.{◌∙◌, ◌+◌, inl, inr, refl, subst, sym, IsUtf8}
use Rattle.sqlite.specs.Held.{state}
use Rattle.ghg_keeper.proofs.Effects.{was_clean}
use Rattle.ghg_keeper.proofs.Moving.{copies_on, insert_commits, insert_within, none_first, only_text, left_within, within_trans}
use Rattle.ghg_keeper.proofs.moves.move_row.Goals as goal

pub returns-in_err-put_row-clause-within : goal.returns-in_err-put_row-clause-within
returns-in_err-put_row-clause-within g c =
    let old = state g.S.Store c.args.connection.now in
    let mid = state g.S.Store c.read_first.new.connection in
    let new = state g.S.Store c.put_row.new.connection in
    within_trans old mid new (left_within old mid (was_clean c.read_first.ensures.survives) (λ h. (c.requires.moving h).in_transaction) c.read_first.ensures.left)
    (insert_within mid new c.in-Ok.id.now c.as_slice-2.result.now c.put_row.result (was_clean c.put_row.ensures.survives) (λ h. (c.in_ok-row.ensures.same h).0.mode ∙ (c.requires.moving (was_clean c.read_first.ensures.survives h)).in_transaction) c.put_row.ensures.runs)

pub returns-clause-within : goal.returns-clause-within
returns-clause-within g c =
    let old = state g.S.Store c.args.connection.now in
    let mid = state g.S.Store c.read_first.new.connection in
    let new = state g.S.Store c.put_row.new.connection in
    within_trans old mid new (left_within old mid (was_clean c.read_first.ensures.survives) (λ h. (c.requires.moving h).in_transaction) c.read_first.ensures.left)
    (insert_within mid new c.in-Ok.id.now c.as_slice-2.result.now c.put_row.result (was_clean c.put_row.ensures.survives) (λ h. (c.in_ok-row.ensures.same h).0.mode ∙ (c.requires.moving (was_clean c.read_first.ensures.survives h)).in_transaction) c.put_row.ensures.runs)

pub returns-clause-moved : goal.returns-clause-moved
returns-clause-moved g c clean =
    let old = state g.S.Store c.args.connection.now in
    let mid = state g.S.Store c.read_first.new.connection in
    let new = state g.S.Store c.put_row.new.connection in
    let was = was_clean c.put_row.ensures.survives clean in
    let ran = c.in_ok-put_row.ensures.runs clean in
    let found = c.in_ok-row.ensures.found was in
    let same = c.in_ok-row.ensures.same was in
    let m = c.requires.moving (was_clean c.read_first.ensures.survives was) in
    copies_on c.args.copied old mid new c.in-Ok.id.now c.as_slice-2.result.now c.in_ok-put_row.field-0 m same
    (λ both. only_text c.in-Ok.id.now c.as_slice-2.result.now c.in_ok-row.row (c.args.copied + 1) old.now (found both) (c.in-Ok.ensures.cases.0 ∙ c.as_slice.ensures) c.as_slice-2.ensures) ran

pub returns-in_err-put_row-clause-survives : goal.returns-in_err-put_row-clause-survives
returns-in_err-put_row-clause-survives g c =
    let old = state g.S.Store c.args.connection.now in
    let mid = state g.S.Store c.read_first.new.connection in
    let new = state g.S.Store c.put_row.new.connection in
    none_first old mid new _ c.read_first.ensures.survives
    (insert_commits mid new c.in-Ok.id.now c.as_slice-2.result.now (λ h. (c.in_ok-row.ensures.same h).0.mode ∙ (c.requires.moving (was_clean c.read_first.ensures.survives h)).in_transaction) c.put_row.ensures.survives)

pub returns-clause-survives : goal.returns-clause-survives
returns-clause-survives g c =
    let old = state g.S.Store c.args.connection.now in
    let mid = state g.S.Store c.read_first.new.connection in
    let new = state g.S.Store c.put_row.new.connection in
    none_first old mid new _ c.read_first.ensures.survives
    (insert_commits mid new c.in-Ok.id.now c.as_slice-2.result.now (λ h. (c.in_ok-row.ensures.same h).0.mode ∙ (c.requires.moving (was_clean c.read_first.ensures.survives h)).in_transaction) c.put_row.ensures.survives)

pub returns-in_err-row-clause-runs : goal.returns-in_err-row-clause-runs
returns-in_err-row-clause-runs g c =
    let p = err_from_is_err_and c.from_residual.result c.from_residual.ensures.1 in
    rw (p.1, p.2) (inl (c.in_err-row.field-0.0, c.in_err-row.ensures.runs, refl))

pub returns-in_default-clause-runs : goal.returns-in_default-clause-runs
returns-in_default-clause-runs g c = inr (c.in_ok-row.row, c.read_first.new.connection, c.in_ok-row.ensures.runs, inl (QueryReturnedNoRows, (refl, refl, λ utf8. c.in_default.ensures.cases.0 (subst IsUtf8 (sym c.as_slice.ensures) utf8)), refl))

pub returns-in_err-put_row-clause-runs : goal.returns-in_err-put_row-clause-runs
returns-in_err-put_row-clause-runs g c =
    let p = err_from_is_err_and c.from_residual-in_err-put_row.result c.from_residual-in_err-put_row.ensures.1 in
    rw (p.1, p.2) (inr (c.in_ok-row.row, c.read_first.new.connection, c.in_ok-row.ensures.runs, inr (tt, c.read_first.new.connection, (refl, subst IsUtf8 c.as_slice.ensures c.in-Ok.ensures.cases.1), inl (c.in_err-put_row.field-0.0, row_runs g.S.Store c.in-Ok.id.now c.as_slice-2.result.now c.in_ok-row.row c.read_first.new.connection c.put_row.new.connection _ (c.in-Ok.ensures.cases.0 ∙ c.as_slice.ensures) c.as_slice-2.ensures c.in_err-put_row.ensures.runs, refl))))

pub returns-clause-runs : goal.returns-clause-runs
returns-clause-runs g c = inr (c.in_ok-row.row, c.read_first.new.connection, c.in_ok-row.ensures.runs, inr (tt, c.read_first.new.connection, (refl, subst IsUtf8 c.as_slice.ensures c.in-Ok.ensures.cases.1), inr (c.in_ok-put_row.field-0, c.put_row.new.connection, row_runs g.S.Store c.in-Ok.id.now c.as_slice-2.result.now c.in_ok-row.row c.read_first.new.connection c.put_row.new.connection _ (c.in-Ok.ensures.cases.0 ∙ c.as_slice.ensures) c.as_slice-2.ensures c.in_ok-put_row.ensures.runs, (refl, refl))))
