use Rattle.ghg_keeper.proofs.Course.{moves_first}
use Rattle.ghg_keeper.specs.Course.{MovesFirst}
use Rattle.sqlite.specs.declared.error.Error.TheVariants.{QueryReturnedNoRows}
use Rattle.std.proofs.lemmas.Result.{err_from_is_err_and}
use Rattle.std.proofs.Common.{ap, length, arith, inl, inr, refl, Ok, Err, subst, sym}
use Rattle.sqlite.specs.Effect.{Database}
use Rattle.ghg_keeper.specs.Accepted.{HasBoth}
use Rattle.ghg_keeper.specs.Listed.{second_rows}
use Rattle.sqlite.specs.Held.{state}
use Rattle.ghg_keeper.proofs.Effects.{was_clean}
use Rattle.ghg_keeper.proofs.Making.{left_keeps, left_rests}
use Rattle.ghg_keeper.proofs.Moving.{emptied_keeps, list_survives, rest_within, within_keeps, within_trans}
use Rattle.ghg_keeper.proofs.moves.empty_first.Goals as goal

pub returns-clause-survives : goal.returns-clause-survives
returns-clause-survives g c =
    list_survives _ (state g.S.Store c.args.connection.now) (state g.S.Store c.count_first.new.connection) (state g.S.Store c.count_second.new.connection) (state g.S.Store c.move_rows.new.connection) c.requires.tables
    c.count_first.ensures.survives c.in_ok-first.ensures.same c.in_ok-first.ensures.size c.count_second.ensures.survives c.in_ok-count_second.ensures.same
    (λ h both. let size = c.in_ok-count_second.ensures.size h both in omega (arith, size, c.if-branch-gt0.false)) c.move_rows.ensures.survives

pub returns-clause-keeps : goal.returns-clause-keeps
returns-clause-keeps g c =
    let a = state g.S.Store c.args.connection.now in
    let b = state g.S.Store c.count_first.new.connection in
    let m = state g.S.Store c.count_second.new.connection in
    let d = state g.S.Store c.move_rows.new.connection in
    let clean_a = was_clean c.count_first.ensures.survives in
    let clean_b = was_clean c.count_second.ensures.survives in
    let within = within_trans a b m (rest_within a b clean_a c.requires.rest c.count_first.ensures.left)
    (rest_within b m clean_b (left_rests a b c.requires.rest clean_a c.count_first.ensures.left) c.count_second.ensures.left) in
    emptied_keeps _ a m d c.move_rows.result c.requires.rest c.requires.tables within (was_clean c.move_rows.ensures.survives)
    (λ h both. c.in_ok-first.ensures.size (clean_b h) both)
    (λ h both.
    let same = (c.in_ok-first.ensures.same (clean_b h)).0.now_is in
    let size = c.in_ok-count_second.ensures.size h (subst (λ (x : Database). HasBoth x.schema) (sym same) both) in
    let rows = ap (λ (x : Database). length (second_rows x)) same in
    omega (arith, size, rows, c.if-branch-gt0.false)) c.move_rows.ensures.moved c.move_rows.ensures.undone

pub returns-in_err-first-clause-runs : goal.returns-in_err-first-clause-runs
returns-in_err-first-clause-runs g c =
    let p = err_from_is_err_and c.from_residual.result c.from_residual.ensures.1 in
    rw (p.1, p.2) (inl (c.in_err-first.field-0.0, c.in_err-first.ensures.runs, refl))

pub returns-then-first-eq0-clause-runs : goal.returns-then-first-eq0-clause-runs
returns-then-first-eq0-clause-runs g c =
    inr (c.in_ok-first.first, c.count_first.new.connection, c.in_ok-first.ensures.runs, subst (λ n. MovesFirst g.S.Store n c.count_first.new.connection c.count_first.new.connection (Ok tt)) (sym c.if-first-eq0.true) (refl, refl))

pub returns-in_err-count_second-clause-runs : goal.returns-in_err-count_second-clause-runs
returns-in_err-count_second-clause-runs g c =
    let p = err_from_is_err_and c.from_residual-in_err-count_second.result c.from_residual-in_err-count_second.ensures.1 in
    rw (p.1, p.2) (inr (c.in_ok-first.first, c.count_first.new.connection, c.in_ok-first.ensures.runs, moves_first g.S.Store c.in_ok-first.first c.count_first.new.connection c.count_second.new.connection (Err c.in_err-count_second.field-0.0) (λ none. omega (arith, none, c.if-first-eq0.false)) (inl (c.in_err-count_second.field-0.0, c.in_err-count_second.ensures.runs, refl))))

pub returns-then-branch-gt0-clause-runs : goal.returns-then-branch-gt0-clause-runs
returns-then-branch-gt0-clause-runs g c =
    inr (c.in_ok-first.first, c.count_first.new.connection, c.in_ok-first.ensures.runs, moves_first g.S.Store c.in_ok-first.first c.count_first.new.connection c.count_second.new.connection _ (λ none. omega (arith, none, c.if-first-eq0.false)) (inr (c.in_ok-count_second.field-0, c.count_second.new.connection, c.in_ok-count_second.ensures.runs, inl (QueryReturnedNoRows, (refl, refl, λ none. omega (arith, none, c.if-branch-gt0.true)), refl))))

pub returns-clause-runs : goal.returns-clause-runs
returns-clause-runs g c =
    inr (c.in_ok-first.first, c.count_first.new.connection, c.in_ok-first.ensures.runs, moves_first g.S.Store c.in_ok-first.first c.count_first.new.connection c.move_rows.new.connection c.move_rows.result (λ none. omega (arith, none, c.if-first-eq0.false)) (inr (c.in_ok-count_second.field-0, c.count_second.new.connection, c.in_ok-count_second.ensures.runs, inr (tt, c.count_second.new.connection, (refl, omega (arith, c.if-branch-gt0.false)), c.move_rows.ensures.runs))))

pub returns-in_err-first-clause-keeps : goal.returns-in_err-first-clause-keeps
returns-in_err-first-clause-keeps g c =
    left_keeps (state g.S.Store c.args.connection.now) (state g.S.Store c.count_first.new.connection) (was_clean c.count_first.ensures.survives) c.requires.rest c.count_first.ensures.left

pub returns-in_err-count_second-clause-keeps : goal.returns-in_err-count_second-clause-keeps
returns-in_err-count_second-clause-keeps g c =
    let a = state g.S.Store c.args.connection.now in
    let b = state g.S.Store c.count_first.new.connection in
    let m = state g.S.Store c.count_second.new.connection in
    let clean = was_clean c.count_first.ensures.survives in
    within_keeps a m c.requires.rest (within_trans a b m (rest_within a b clean c.requires.rest c.count_first.ensures.left)
    (rest_within b m (was_clean c.count_second.ensures.survives) (left_rests a b c.requires.rest clean c.count_first.ensures.left) c.count_second.ensures.left))

pub returns-then-branch-gt0-clause-keeps : goal.returns-then-branch-gt0-clause-keeps
returns-then-branch-gt0-clause-keeps g c =
    let a = state g.S.Store c.args.connection.now in
    let b = state g.S.Store c.count_first.new.connection in
    let m = state g.S.Store c.count_second.new.connection in
    let clean = was_clean c.count_first.ensures.survives in
    within_keeps a m c.requires.rest (within_trans a b m (rest_within a b clean c.requires.rest c.count_first.ensures.left)
    (rest_within b m (was_clean c.count_second.ensures.survives) (left_rests a b c.requires.rest clean c.count_first.ensures.left) c.count_second.ensures.left))
