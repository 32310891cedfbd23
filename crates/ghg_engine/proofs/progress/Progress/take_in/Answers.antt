use Rattle.std.proofs.Common.{◌≡◌, ◌+◌, ◌<◌, ◌∙◌, length, refl, subst, arith}
use Rattle.ghg_engine.specs.Layers.{IsOutcomeAt}
use Rattle.ghg_engine.specs.Progress.{HasCome}
use Rattle.ghg_engine.proofs.Come.{slot_gives, slot_is_some}
use Rattle.ghg_engine.proofs.progress.Progress.take_in.Goals as goal

pub loop-at-init : goal.loop-at-init
loop-at-init g c =
    let from : c.args.start ≡ c.args.start + 0 = omega arith in
    record {
      long = refl;
      rest = λ k on. refl;
      progress = subst (λ k. HasCome (g.C.Cells.content c.args.change.now.before.now) (g.R.Records.content c.args.change.now.records.now) c.args.change.now.keys.now c.args.nodes.now k c.args.self.now) from c.requires.progress;
      reader = c.new-reader.ensures;
    }

pub taken-evaluated-requires : goal.taken-evaluated-requires
taken-evaluated-requires g c =
    let within : c.loop-at.at < length c.args.outcomes.items = omega (arith, c.loop-at-test.true, c.len-at-end.ensures, c.args.outcomes.ok) in
    slot_is_some (IsOutcomeAt (g.R.Records.content c.args.change.now.records.now) c.args.nodes.now (c.args.start + c.loop-at.at)) _ _
    (c.loop-at.invariant.rest c.loop-at.at (omega arith)) (c.requires.outcomes c.loop-at.at within)

pub take_one-requires-clause-outcome : goal.take_one-requires-clause-outcome
take_one-requires-clause-outcome g c =
    let within : c.loop-at.at < length c.args.outcomes.items = omega (arith, c.loop-at-test.true, c.len-at-end.ensures, c.args.outcomes.ok) in
    slot_gives (IsOutcomeAt (g.R.Records.content c.args.change.now.records.now) c.args.nodes.now (c.args.start + c.loop-at.at)) _ _ c.taken-evaluated.result
    (c.loop-at.invariant.rest c.loop-at.at (omega arith)) c.taken-evaluated.ensures.taken (c.requires.outcomes c.loop-at.at within)

pub loop-at-preserved : goal.loop-at-preserved
loop-at-preserved g c =
    let next : c.args.start + c.loop-at.at + 1 ≡ c.args.start + (c.loop-at.at + 1) = omega arith in
    record {
      long = c.taken-evaluated.ensures.long ∙ c.loop-at.invariant.long;
      rest = λ k on. c.taken-evaluated.ensures.later k (omega (arith, on)) ∙ c.loop-at.invariant.rest k (omega (arith, on));
      progress = subst (λ k. HasCome (g.C.Cells.content c.args.change.now.before.now) (g.R.Records.content c.args.change.now.records.now) c.args.change.now.keys.now c.args.nodes.now k c.take_one.new.self) next c.in_ok-take_one.ensures.progress;
      reader = c.in_ok-take_one.ensures.same ∙ c.loop-at.invariant.reader;
    }

pub returns : goal.returns
returns g c =
    let all : c.args.start + c.loop-at.at ≡ c.args.start + length c.args.outcomes.items = omega (arith, c.loop-at-test.false, c.loop-at.auto.at-end, c.len-at-end.ensures, c.args.outcomes.ok) in
    subst (λ k. HasCome (g.C.Cells.content c.args.change.now.before.now) (g.R.Records.content c.args.change.now.records.now) c.args.change.now.keys.now c.args.nodes.now k c.loop-at.self) all c.loop-at.invariant.progress
