use Rattle.ghg_keeper.proofs.Course.{copies_more, copies_out}
use Rattle.ghg_keeper.specs.Course.{MovesAll}
use Rattle.std.proofs.lemmas.Result.{err_from_is_err_and}
use Rattle.std.proofs.Common.{◌≡◌, subst, arith, inl, inr, refl, Ok, Err}
use Rattle.sqlite.specs.State.{Survives}
use Rattle.sqlite.specs.Held.{state}
use Rattle.ghg_keeper.specs.Moving.{CommitsMove, CommitsNone, IsMoved}
use Rattle.ghg_keeper.proofs.Moving.{all_moved, move_commits, none_first, none_is, within_trans, none_last, none_same, within_same}
use Rattle.ghg_keeper.proofs.Effects.{was_clean}
use Rattle.ghg_keeper.proofs.moves.move_all.Goals as goal

pub commit-requires : goal.commit-requires
commit-requires g c h = (c.in_ok-clear.ensures.cleared h c.loop-copied.copied (c.loop-copied.invariant.0 (c.clear.ensures.within.clean h))).in_transaction

pub returns-clause-moved : goal.returns-clause-moved
returns-clause-moved g c clean =
    let old = state g.S.Store c.args.connection.now in
    let mid = state g.S.Store c.loop-copied.connection in
    let end = state g.S.Store c.clear.new.connection in
    let new = state g.S.Store c.commit.new.connection in
    let was = was_clean c.commit.ensures.survives clean in
    let within = within_trans old mid end c.loop-copied.invariant.1 c.clear.ensures.within in
    let cleared = c.in_ok-clear.ensures.cleared was c.loop-copied.copied (c.loop-copied.invariant.0 (c.clear.ensures.within.clean was)) in
    let all : c.loop-copied.copied ≡ c.args.count = omega (arith, c.loop-copied-test.false, c.loop-copied.auto.copied-end) in
    subst (λ n. IsMoved n old new) all (all_moved c.loop-copied.copied old end new was within (c.in_ok-clear.ensures.sound was) cleared (c.in_ok-commit.ensures.committed clean))

pub returns-in_err-commit-clause-survives : goal.returns-in_err-commit-clause-survives
returns-in_err-commit-clause-survives g c =
    let old = state g.S.Store c.args.connection.now in
    let mid = state g.S.Store c.loop-copied.connection in
    let end = state g.S.Store c.clear.new.connection in
    let new = state g.S.Store c.commit.new.connection in
    let within = within_trans old mid end c.loop-copied.invariant.1 c.clear.ensures.within in
    let all : c.loop-copied.copied ≡ c.args.count = omega (arith, c.loop-copied-test.false, c.loop-copied.auto.copied-end) in
    subst (λ n. Survives old new (CommitsMove n old.committed)) all
    (move_commits c.loop-copied.copied old end new within (λ h. c.in_ok-clear.ensures.sound h) (λ h. c.in_ok-clear.ensures.cleared h c.loop-copied.copied (c.loop-copied.invariant.0 (c.clear.ensures.within.clean h)))
    (none_first old mid end CommitsNone c.loop-copied.invariant.2 c.clear.ensures.survives) c.commit.ensures.survives)

pub returns-clause-survives : goal.returns-clause-survives
returns-clause-survives g c =
    let old = state g.S.Store c.args.connection.now in
    let mid = state g.S.Store c.loop-copied.connection in
    let end = state g.S.Store c.clear.new.connection in
    let new = state g.S.Store c.commit.new.connection in
    let within = within_trans old mid end c.loop-copied.invariant.1 c.clear.ensures.within in
    let all : c.loop-copied.copied ≡ c.args.count = omega (arith, c.loop-copied-test.false, c.loop-copied.auto.copied-end) in
    subst (λ n. Survives old new (CommitsMove n old.committed)) all
    (move_commits c.loop-copied.copied old end new within (λ h. c.in_ok-clear.ensures.sound h) (λ h. c.in_ok-clear.ensures.cleared h c.loop-copied.copied (c.loop-copied.invariant.0 (c.clear.ensures.within.clean h)))
    (none_first old mid end CommitsNone c.loop-copied.invariant.2 c.clear.ensures.survives) c.commit.ensures.survives)

pub returns-in_err-clear-clause-survives : goal.returns-in_err-clear-clause-survives
returns-in_err-clear-clause-survives g c =
    let old = state g.S.Store c.args.connection.now in
    let mid = state g.S.Store c.loop-copied.connection in
    let new = state g.S.Store c.clear.new.connection in
    none_is old new _ (none_first old mid new CommitsNone c.loop-copied.invariant.2 c.clear.ensures.survives)

pub loop-copied-init : goal.loop-copied-init
loop-copied-init g c = (c.requires.moving, within_same (state g.S.Store c.args.connection.now) (λ h. (c.requires.moving h).in_transaction), none_same (state g.S.Store c.args.connection.now), (refl, refl))

pub loop-copied-preserved : goal.loop-copied-preserved
loop-copied-preserved g c =
    let old = state g.S.Store c.args.connection.now in
    let mid = state g.S.Store c.loop-copied.connection in
    let new = state g.S.Store c.move_row.new.connection in (
      (λ h. c.in_ok-move_row.ensures.moved h),
      within_trans old mid new c.loop-copied.invariant.1 c.move_row.ensures.within,
      none_last old mid new CommitsNone c.loop-copied.invariant.2 c.move_row.ensures.survives,
      copies_more g.S.Store c.loop-copied.copied c.args.connection.now c.loop-copied.connection c.move_row.new.connection c.loop-copied.invariant.3 c.in_ok-move_row.ensures.runs,
    )

pub returns-in_err-move_row-clause-runs : goal.returns-in_err-move_row-clause-runs
returns-in_err-move_row-clause-runs g c =
    let p = err_from_is_err_and c.from_residual.result c.from_residual.ensures.1 in
    rw (p.1, p.2) (inl (c.in_err-move_row.field-0.0, copies_out g.S.Store c.loop-copied.copied c.args.count c.args.connection.now c.loop-copied.connection c.move_row.new.connection c.in_err-move_row.field-0.0 c.loop-copied-test.true c.loop-copied.invariant.3 c.in_err-move_row.ensures.runs, refl))

pub returns-in_err-clear-clause-runs : goal.returns-in_err-clear-clause-runs
returns-in_err-clear-clause-runs g c =
    let all : c.loop-copied.copied ≡ c.args.count = omega (arith, c.loop-copied-test.false, c.loop-copied.auto.copied-end) in
    let p = err_from_is_err_and c.from_residual-in_err-clear.result c.from_residual-in_err-clear.ensures.1 in
    rw (p.1, p.2) (subst (λ n. MovesAll g.S.Store n c.args.connection.now c.clear.new.connection (Err c.in_err-clear.field-0.0)) all (inr (tt, c.loop-copied.connection, c.loop-copied.invariant.3, inl (c.in_err-clear.field-0.0, c.in_err-clear.ensures.runs, refl))))

pub returns-in_err-commit-clause-runs : goal.returns-in_err-commit-clause-runs
returns-in_err-commit-clause-runs g c =
    let all : c.loop-copied.copied ≡ c.args.count = omega (arith, c.loop-copied-test.false, c.loop-copied.auto.copied-end) in
    let p = err_from_is_err_and c.from_residual-in_err-commit.result c.from_residual-in_err-commit.ensures.1 in
    rw (p.1, p.2) (subst (λ n. MovesAll g.S.Store n c.args.connection.now c.commit.new.connection (Err c.in_err-commit.field-0.0)) all (inr (tt, c.loop-copied.connection, c.loop-copied.invariant.3, inr (tt, c.clear.new.connection, c.in_ok-clear.ensures.runs, inl (c.in_err-commit.field-0.0, c.in_err-commit.ensures.runs, refl)))))

pub returns-clause-runs : goal.returns-clause-runs
returns-clause-runs g c =
    let all : c.loop-copied.copied ≡ c.args.count = omega (arith, c.loop-copied-test.false, c.loop-copied.auto.copied-end) in
    subst (λ n. MovesAll g.S.Store n c.args.connection.now c.commit.new.connection (Ok tt)) all (inr (tt, c.loop-copied.connection, c.loop-copied.invariant.3, inr (tt, c.clear.new.connection, c.in_ok-clear.ensures.runs, inr (c.in_ok-commit.field-0, c.commit.new.connection, c.in_ok-commit.ensures.runs, (refl, refl)))))
