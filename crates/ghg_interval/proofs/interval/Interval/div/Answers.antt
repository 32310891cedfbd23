use Rattle.std.proofs.Common.{false, IsTrue, sym, true≢false}
use Rattle.ghg_interval.specs.Bounds.{Bounds, HoldsZero}
use Rattle.ghg_interval.proofs.Division.{answers_zero, answers_over, answers_quotient, quotient_holds}
use Rattle.ghg_interval.proofs.interval.Interval.div.Goals as goal

missed : (b : Bounds) → (HoldsZero b → IsTrue false) → HoldsZero b → ⊥
missed b h z = true≢false (sym (h z))

pub returns-then-holds_zero-clause-gives : goal.returns-then-holds_zero-clause-gives
returns-then-holds_zero-clause-gives c = answers_zero _ _ (c.holds_zero.ensures.0 c.if-holds_zero.true)

pub returns-in-Ok-clause-gives : goal.returns-in-Ok-clause-gives
returns-in-Ok-clause-gives c = answers_quotient _ _ _ (missed _ c.if-holds_zero.ensures.1) c.in-Ok.ensures.0 c.in-Ok.ensures.1

pub returns-in-Ok-clause-holds : goal.returns-in-Ok-clause-holds
returns-in-Ok-clause-holds c = rw c.in-Ok.ensures.1 (quotient_holds _ _ (missed _ c.if-holds_zero.ensures.1))

pub returns-in-Err-clause-gives : goal.returns-in-Err-clause-gives
returns-in-Err-clause-gives c = answers_over _ _ (missed _ c.if-holds_zero.ensures.1) c.in-Err.ensures
