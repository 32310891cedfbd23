use Rattle.std.proofs.lemmas.Result.{err_from_is_err_and}
use Rattle.std.proofs.Common.{arith, inl, inr, refl}
use Rattle.sqlite.specs.Held.{state}
use Rattle.ghg_keeper.proofs.Effects.{was_clean}
use Rattle.ghg_keeper.proofs.Moving.{clear_commits, clear_sound, none_first, clear_within, clear_inside, clear_clears, left_within, within_trans}
use Rattle.ghg_keeper.proofs.moves.clear.Goals as goal

pub returns-in_err-execute-clause-within : goal.returns-in_err-execute-clause-within
returns-in_err-execute-clause-within g c =
    clear_within (state g.S.Store c.args.connection.now) (state g.S.Store c.execute.new.self) c.execute.result (was_clean c.execute.ensures.survives) c.requires c.execute.ensures.runs

pub returns-in_err-count_first-clause-within : goal.returns-in_err-count_first-clause-within
returns-in_err-count_first-clause-within g c =
    let old = state g.S.Store c.args.connection.now in
    let mid = state g.S.Store c.execute.new.self in
    let new = state g.S.Store c.count_first.new.connection in
    within_trans old mid new (clear_within old mid c.execute.result (was_clean c.execute.ensures.survives) c.requires c.execute.ensures.runs)
    (left_within mid new (was_clean c.count_first.ensures.survives) (λ h. clear_inside old mid _ (c.in_ok-execute.ensures.runs h) (c.requires (was_clean c.execute.ensures.survives h))) c.count_first.ensures.left)

pub returns-then-branch-gt0-clause-within : goal.returns-then-branch-gt0-clause-within
returns-then-branch-gt0-clause-within g c =
    let old = state g.S.Store c.args.connection.now in
    let mid = state g.S.Store c.execute.new.self in
    let new = state g.S.Store c.count_first.new.connection in
    within_trans old mid new (clear_within old mid c.execute.result (was_clean c.execute.ensures.survives) c.requires c.execute.ensures.runs)
    (left_within mid new (was_clean c.count_first.ensures.survives) (λ h. clear_inside old mid _ (c.in_ok-execute.ensures.runs h) (c.requires (was_clean c.execute.ensures.survives h))) c.count_first.ensures.left)

pub returns-clause-within : goal.returns-clause-within
returns-clause-within g c =
    let old = state g.S.Store c.args.connection.now in
    let mid = state g.S.Store c.execute.new.self in
    let new = state g.S.Store c.count_first.new.connection in
    within_trans old mid new (clear_within old mid c.execute.result (was_clean c.execute.ensures.survives) c.requires c.execute.ensures.runs)
    (left_within mid new (was_clean c.count_first.ensures.survives) (λ h. clear_inside old mid _ (c.in_ok-execute.ensures.runs h) (c.requires (was_clean c.execute.ensures.survives h))) c.count_first.ensures.left)

pub returns-clause-cleared : goal.returns-clause-cleared
returns-clause-cleared g c clean =
    let mid = state g.S.Store c.execute.new.self in
    clear_clears (state g.S.Store c.args.connection.now) mid (state g.S.Store c.count_first.new.connection) _ (c.in_ok-execute.ensures.runs (was_clean c.count_first.ensures.survives clean)) (c.in_ok-count_first.ensures.same clean)
    (λ both. let size = c.in_ok-count_first.ensures.size clean both in omega (arith, size, c.if-branch-gt0.false))

pub returns-in_err-execute-clause-survives : goal.returns-in_err-execute-clause-survives
returns-in_err-execute-clause-survives g c = clear_commits (state g.S.Store c.args.connection.now) (state g.S.Store c.execute.new.self) c.requires c.execute.ensures.survives

pub returns-in_err-count_first-clause-survives : goal.returns-in_err-count_first-clause-survives
returns-in_err-count_first-clause-survives g c =
    let old = state g.S.Store c.args.connection.now in
    let mid = state g.S.Store c.execute.new.self in
    none_first old mid (state g.S.Store c.count_first.new.connection) _ (clear_commits old mid c.requires c.execute.ensures.survives) c.count_first.ensures.survives

pub returns-then-branch-gt0-clause-survives : goal.returns-then-branch-gt0-clause-survives
returns-then-branch-gt0-clause-survives g c =
    let old = state g.S.Store c.args.connection.now in
    let mid = state g.S.Store c.execute.new.self in
    none_first old mid (state g.S.Store c.count_first.new.connection) _ (clear_commits old mid c.requires c.execute.ensures.survives) c.count_first.ensures.survives

pub returns-clause-survives : goal.returns-clause-survives
returns-clause-survives g c =
    let old = state g.S.Store c.args.connection.now in
    let mid = state g.S.Store c.execute.new.self in
    none_first old mid (state g.S.Store c.count_first.new.connection) _ (clear_commits old mid c.requires c.execute.ensures.survives) c.count_first.ensures.survives

pub returns-clause-sound : goal.returns-clause-sound
returns-clause-sound g c clean =
    clear_sound (state g.S.Store c.args.connection.now) (state g.S.Store c.execute.new.self) (state g.S.Store c.count_first.new.connection) _ (c.in_ok-execute.ensures.runs (was_clean c.count_first.ensures.survives clean)) (c.in_ok-count_first.ensures.same clean)

pub returns-in_err-execute-clause-runs : goal.returns-in_err-execute-clause-runs
returns-in_err-execute-clause-runs g c =
    let p = err_from_is_err_and c.from_residual.result c.from_residual.ensures.1 in
    rw (p.1, p.2) (inl (c.in_err-execute.field-0.0, c.in_err-execute.ensures.runs, refl))

pub returns-in_err-count_first-clause-runs : goal.returns-in_err-count_first-clause-runs
returns-in_err-count_first-clause-runs g c =
    let p = err_from_is_err_and c.from_residual-in_err-count_first.result c.from_residual-in_err-count_first.ensures.1 in
    rw (p.1, p.2) (inr (c.in_ok-execute.field-0, c.execute.new.self, c.in_ok-execute.ensures.runs, inl (c.in_err-count_first.field-0.0, c.in_err-count_first.ensures.runs, refl)))

pub returns-then-branch-gt0-clause-runs : goal.returns-then-branch-gt0-clause-runs
returns-then-branch-gt0-clause-runs g c = inr (c.in_ok-execute.field-0, c.execute.new.self, c.in_ok-execute.ensures.runs, inr (c.in_ok-count_first.field-0, c.count_first.new.connection, c.in_ok-count_first.ensures.runs, (refl, refl, λ none. omega (arith, none, c.if-branch-gt0.true))))

pub returns-clause-runs : goal.returns-clause-runs
returns-clause-runs g c = inr (c.in_ok-execute.field-0, c.execute.new.self, c.in_ok-execute.ensures.runs, inr (c.in_ok-count_first.field-0, c.count_first.new.connection, c.in_ok-count_first.ensures.runs, (refl, omega (arith, c.if-branch-gt0.false))))
