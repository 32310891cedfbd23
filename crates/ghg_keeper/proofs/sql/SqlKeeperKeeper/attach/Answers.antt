use Rattle.ghg_keeper.specs.Databases.{database}
use Rattle.sqlite.specs.Held.{state}
use Rattle.std.proofs.Common.{◌≡◌, false, ap, sym, ◌∙◌, inl, inr, refl, rules}
use Rattle.ghg_keeper.specs.Accepted.{has_kept_tables}
use Rattle.ghg_keeper.proofs.Moving.{never_both}
use Rattle.ghg_keeper.proofs.Shelves.{attach_rows, attach_safe, refused_rows, attach_told, again_rows, again_told, on_told, same_safe}
use Rattle.std.proofs.lemmas.Result.{err_from_is_err_and}
use Rattle.ghg_keeper.proofs.Course.{lacks_after, lacks_again, prepared_ok, prepared_err}
use Rattle.ghg_keeper.proofs.sql.SqlKeeperKeeper.attach.Goals.{then-not-self+in_ok-told, else-not-self}
use Rattle.ghg_keeper.proofs.sql.SqlKeeperKeeper.attach.Goals as goal

pub returns-clause-rows : goal.returns-clause-rows
returns-clause-rows g c = elim c.if-not-self.branch [
  | then-not-self+in_ok-told w ↦ rw (w.self-is, w.told.ensures.same)
      (attach_rows c.args.self.now.is_attached (database g.S.Store c.args.self.now) (state g.S.Store w.prepare-prepared.new.connection) _ _ w.if-not-self.true w.prepare-prepared.ensures.keeps)
  | else-not-self w ↦ rw w.self-is (again_rows c.args.self.now.is_attached (database g.S.Store c.args.self.now) _ _ w.if-not-self.false)
]

pub returns-in_err-told-clause-rows : goal.returns-in_err-told-clause-rows
returns-in_err-told-clause-rows g c = rw (c.told.ensures.same, c.told.ensures.attached)
    (refused_rows c.args.self.now.is_attached (database g.S.Store c.args.self.now) (state g.S.Store c.prepare-prepared.new.connection) _ _ c.if-not-self.true c.prepare-prepared.ensures.keeps)

pub returns-clause-told : goal.returns-clause-told
returns-clause-told g c = elim c.if-not-self.branch [
  | then-not-self+in_ok-told w ↦
      rw (w.self-is, w.told.ensures.same)
      (attach_told c.args.self.now.is_attached (database g.S.Store c.args.self.now) (state g.S.Store w.prepare-prepared.new.connection) w.if-not-self.true w.prepare-prepared.ensures.keeps
      (λ clean. on_told w.prepare-prepared.result w.in_ok-told.field-0 w.in_ok-told.ensures.answer (w.prepare-prepared.ensures.ready clean)))
  | else-not-self w ↦ rw w.self-is (λ t clean. again_told c.args.self.now.is_attached (database g.S.Store c.args.self.now) w.if-not-self.false t)
]

pub returns-clause-moved : goal.returns-clause-moved
returns-clause-moved g c = elim c.if-not-self.branch [
  | then-not-self+in_ok-told w ↦ rw (w.self-is, w.told.ensures.same)
      (λ first clean. on_told w.prepare-prepared.result w.in_ok-told.field-0 w.in_ok-told.ensures.answer (w.prepare-prepared.ensures.ready clean))
  | else-not-self w ↦ λ first. never_both c.args.self.now.is_attached w.if-not-self.false first
]

pub returns-clause-safe : goal.returns-clause-safe
returns-clause-safe g c = elim c.if-not-self.branch [
  | then-not-self+in_ok-told w ↦ rw (w.self-is, w.told.ensures.same)
      (attach_safe (database g.S.Store c.args.self.now) (state g.S.Store w.prepare-prepared.new.connection) _
      (λ clean. inl (on_told w.prepare-prepared.result w.in_ok-told.field-0 w.in_ok-told.ensures.answer (w.prepare-prepared.ensures.ready clean)).is_open)
      w.prepare-prepared.ensures.keeps w.prepare-prepared.ensures.rest w.prepare-prepared.ensures.survives
      (λ live db. g.met.S.Store.settled c.args.self.now.connection.store db live) (λ live db. g.met.S.Store.settled w.prepare-prepared.new.connection.store db live))
  | else-not-self w ↦ rw w.self-is (same_safe (database g.S.Store c.args.self.now) _ (λ live db. g.met.S.Store.settled c.args.self.now.connection.store db live))
]

pub returns-then-not-is_autocommit-clause-safe : goal.returns-then-not-is_autocommit-clause-safe
returns-then-not-is_autocommit-clause-safe g c = rw c.fault.ensures.same (same_safe (database g.S.Store c.args.self.now) _ (λ live db. g.met.S.Store.settled c.args.self.now.connection.store db live))

pub returns-in_err-told-clause-safe : goal.returns-in_err-told-clause-safe
returns-in_err-told-clause-safe g c = rw c.told.ensures.same
    (attach_safe (database g.S.Store c.args.self.now) (state g.S.Store c.prepare-prepared.new.connection) _ (λ clean. inr (search rules))
    c.prepare-prepared.ensures.keeps c.prepare-prepared.ensures.rest c.prepare-prepared.ensures.survives
    (λ live db. g.met.S.Store.settled c.args.self.now.connection.store db live) (λ live db. g.met.S.Store.settled c.prepare-prepared.new.connection.store db live))

pub returns-then-not-has_kept_tables-clause-safe : goal.returns-then-not-has_kept_tables-clause-safe
returns-then-not-has_kept_tables-clause-safe g c = elim c.if-not-self.branch [
  | then-not-self+in_ok-told w ↦ rw (c.fault-then-not-has_kept_tables.ensures.same, w.self-is, w.told.ensures.same)
      (attach_safe (database g.S.Store c.args.self.now) (state g.S.Store w.prepare-prepared.new.connection) _ (λ clean. inr refl)
      w.prepare-prepared.ensures.keeps w.prepare-prepared.ensures.rest w.prepare-prepared.ensures.survives
      (λ live db. g.met.S.Store.settled c.args.self.now.connection.store db live) (λ live db. g.met.S.Store.settled w.prepare-prepared.new.connection.store db live))
  | else-not-self w ↦ rw (c.fault-then-not-has_kept_tables.ensures.same, w.self-is) (same_safe (database g.S.Store c.args.self.now) _ (λ live db. g.met.S.Store.settled c.args.self.now.connection.store db live))
]

pub returns-clause-rest : goal.returns-clause-rest
returns-clause-rest g c = elim c.if-not-self.branch [
  | then-not-self+in_ok-told w ↦ rw (w.self-is, w.told.ensures.same) (λ was. w.prepare-prepared.ensures.rest)
  | else-not-self w ↦ rw w.self-is (λ was clean. was)
]

pub returns-then-not-is_autocommit-clause-rest : goal.returns-then-not-is_autocommit-clause-rest
returns-then-not-is_autocommit-clause-rest g c = rw c.fault.ensures.same (λ was clean. was)

pub returns-in_err-told-clause-rest : goal.returns-in_err-told-clause-rest
returns-in_err-told-clause-rest g c = rw c.told.ensures.same (λ was. c.prepare-prepared.ensures.rest)

pub returns-then-not-has_kept_tables-clause-rest : goal.returns-then-not-has_kept_tables-clause-rest
returns-then-not-has_kept_tables-clause-rest g c = elim c.if-not-self.branch [
  | then-not-self+in_ok-told w ↦ rw (c.fault-then-not-has_kept_tables.ensures.same, w.self-is, w.told.ensures.same) (λ was. w.prepare-prepared.ensures.rest)
  | else-not-self w ↦ rw (c.fault-then-not-has_kept_tables.ensures.same, w.self-is) (λ was clean. was)
]

pub returns-clause-runs : goal.returns-clause-runs
returns-clause-runs g c = elim c.if-not-self.branch [
  | then-not-self+in_ok-told w ↦ rw (w.self-is, w.told.ensures.same)
      (λ first. prepared_ok g.S.Store c.args.self.now.connection w.prepare-prepared.new.connection w.prepare-prepared.result w.in_ok-told.field-0 w.in_ok-told.ensures.answer w.prepare-prepared.ensures.runs)
  | else-not-self w ↦ λ first. never_both c.args.self.now.is_attached w.if-not-self.false first
]

pub returns-clause-again : goal.returns-clause-again
returns-clause-again g c = elim c.if-not-self.branch [
  | then-not-self+in_ok-told w ↦ λ first. never_both c.args.self.now.is_attached first w.if-not-self.true
  | else-not-self w ↦ rw w.self-is (λ first. refl)
]

pub returns-then-not-is_autocommit-clause-again : goal.returns-then-not-is_autocommit-clause-again
returns-then-not-is_autocommit-clause-again g c = λ first. c.fault.ensures.same

pub returns-in_err-told-clause-again : goal.returns-in_err-told-clause-again
returns-in_err-told-clause-again g c = λ first. never_both c.args.self.now.is_attached first c.if-not-self.true

pub returns-then-not-has_kept_tables-clause-again : goal.returns-then-not-has_kept_tables-clause-again
returns-then-not-has_kept_tables-clause-again g c = elim c.if-not-self.branch [
  | then-not-self+in_ok-told w ↦ λ first. never_both c.args.self.now.is_attached first w.if-not-self.true
  | else-not-self w ↦ rw (c.fault-then-not-has_kept_tables.ensures.same, w.self-is) (λ first. refl)
]

pub returns-in_err-told-clause-cause : goal.returns-in_err-told-clause-cause
returns-in_err-told-clause-cause g c =
    let p = err_from_is_err_and c.from_residual.result c.from_residual.ensures.1 in
    let it = prepared_err g.S.Store c.args.self.now.connection c.prepare-prepared.new.connection c.prepare-prepared.result c.in_err-told.field-0.0 c.in_err-told.ensures.answer c.prepare-prepared.ensures.runs in
    rw (p.1, p.2, c.told.ensures.same) (inr (it.0, (c.if-not-self.true, it.1), it.2))

pub returns-then-not-has_kept_tables-clause-cause : goal.returns-then-not-has_kept_tables-clause-cause
returns-then-not-has_kept_tables-clause-cause g c =
    let lacks : has_kept_tables c.if-not-self.self.connection.schema ≡ false = ap has_kept_tables (sym c.schema-2.ensures.value) ∙ sym c.has_kept_tables.ensures ∙ c.if-not-has_kept_tables.true in
    inl (
      c.fault-then-not-has_kept_tables.ensures.result,
      inr (inr (elim c.if-not-self.branch [
        | then-not-self+in_ok-told w ↦ rw (c.fault-then-not-has_kept_tables.ensures.same, w.self-is, w.told.ensures.same)
            (lacks_after g.S.Store c.args.self.now.is_attached c.args.self.now.connection w.prepare-prepared.new.connection w.if-not-self.true
            (prepared_ok g.S.Store c.args.self.now.connection w.prepare-prepared.new.connection w.prepare-prepared.result w.in_ok-told.field-0 w.in_ok-told.ensures.answer w.prepare-prepared.ensures.runs)
            (rw (w.self-is, w.told.ensures.same) at lacks))
        | else-not-self w ↦ rw (c.fault-then-not-has_kept_tables.ensures.same, w.self-is)
            (lacks_again g.S.Store c.args.self.now.is_attached c.args.self.now.connection w.if-not-self.false (rw w.self-is at lacks))
      ])),
    )
