use Rattle.std.proofs.Common.{take, refl, sym, subst}
use Rattle.std.specs.Prelude.{option_copied}
use Rattle.std.proofs.lemmas.List.{take_all}
use Rattle.ghg_columns.specs.Overlays.{outcomes_of}
use Rattle.ghg_evaluation.specs.Arguments.{IsArgument, IsHeld, IsShort, operand_by}
use Rattle.ghg_evaluation.proofs.Each.{value_at}
use Rattle.ghg_evaluation.proofs.Gathered.{all_give, gives, one_more, one_over}
use Rattle.ghg_evaluation.specs.Kept.{AreKeptFactors}
use Rattle.ghg_evaluation.proofs.Held.{nothing_held, same_held}
use Rattle.ghg_evaluation.proofs.arguments.Arguments.gather.Goals as goal

pub loop-binding-init : goal.loop-binding-init
loop-binding-init g c = (nothing_held _ c.clear.ensures.items refl refl, c.begin.ensures (g.R.Records.content c.args.records.now) c.requires.kept)

pub take-requires-clause-short : goal.take-requires-clause-short
take-requires-clause-short g c =
    let m = g.R.Records.content c.args.records.now in
    value_at (λ b. option_copied b) (operand_by m c.args.year) IsShort c.args.bindings.now c.loop-binding.binding-index c.binding-item.result
    c.requires.short c.loop-binding-test.true c.binding-item.is

pub returns-in_default-clause-gathered : goal.returns-in_default-clause-gathered
returns-in_default-clause-gathered g c =
    let m = g.R.Records.content c.args.records.now in
    let cells = outcomes_of c.args.cells.now in
    let b = c.binding-item.result in
    one_over m cells c.args.year c.args.bindings.now c.loop-binding.binding-index b c.loop-binding-test.true c.binding-item.is
    c.loop-binding.invariant.0.found c.loop-binding.invariant.0.gathered
    (subst (IsArgument (gives m cells c.args.year b)) c.in_default.is c.in_ok-taken.ensures.taken)

pub loop-binding-preserved : goal.loop-binding-preserved
loop-binding-preserved g c =
    let m = g.R.Records.content c.args.records.now in
    let cells = outcomes_of c.args.cells.now in
    let year = c.args.year in
    let bs = c.args.bindings.now in
    let i = c.loop-binding.binding-index in
    let b = c.binding-item.result in
    let taken = subst (IsArgument (gives m cells year b)) c.in-Some.is c.in_ok-taken.ensures.taken in
    let before = same_held (all_give m cells year (take i bs)) c.loop-binding.self _ refl refl refl c.loop-binding.invariant.0 in
    let held = c.in_ok-push.ensures.held (all_give m cells year (take i bs)) (gives m cells year b) before taken in
    (subst (λ os. IsHeld os c.push.new.self) (sym (one_more m cells year bs i b c.loop-binding-test.true c.binding-item.is)) held, subst (AreKeptFactors m) (sym c.in_ok-push.ensures.factors) c.take.ensures.kept)

pub returns-clause-gathered : goal.returns-clause-gathered
returns-clause-gathered g c =
    let m = g.R.Records.content c.args.records.now in
    subst (λ bs. IsHeld (all_give m (outcomes_of c.args.cells.now) c.args.year bs) c.loop-binding.self)
    (take_all c.loop-binding.binding-index c.args.bindings.now c.loop-binding-test.false) c.loop-binding.invariant.0
