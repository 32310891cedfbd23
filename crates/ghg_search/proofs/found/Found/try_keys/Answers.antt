use Rattle.std.proofs.Common.{◌∙◌, sym}
use Rattle.ghg_affected.proofs.Bools.{true_not_false}
use Rattle.ghg_units.specs.declared.node.Node.TheVariants as node
use Rattle.ghg_search.specs.Search.{AreEquivalentsTried, AreLinesTried, IsChange}
use Rattle.ghg_search.proofs.Adding.{added_more, added_none, equivalent_kept}
use Rattle.ghg_search.proofs.Sources.{each_all, each_next}
use Rattle.ghg_search.proofs.found.Found.try_keys.Goals as goal

pub returns-then-is_empty : goal.returns-then-is_empty
returns-then-is_empty g c = record {
  added = added_none (IsChange (g.R.Records.content c.args.old.now) (g.S.Records.content c.args.new.now)) c.args.self.now;
  lines = λ k i name y h. absurd (true_not_false (sym h ∙ c.is_empty.ensures.0 c.if-is_empty.true y));
  equivalents = λ k i name y h. absurd (true_not_false (sym h ∙ c.is_empty.ensures.0 c.if-is_empty.true y));
}

pub loop-key-init : goal.loop-key-init
loop-key-init g c = record {
  added = added_none (IsChange (g.R.Records.content c.args.old.now) (g.S.Records.content c.args.new.now)) c.args.self.now;
  lines = λ k i. absurd i;
  equivalents = λ k i. absurd i;
}

pub loop-key-preserved : goal.loop-key-preserved
loop-key-preserved g c =
    let old = g.R.Records.content c.args.old.now in
    let new = g.S.Records.content c.args.new.now in
    let kept = c.in_ok-try_key.ensures.added.kept in
    let index = c.args.index.now in
    let years = c.args.years.now in
    let f = c.try_key.new.self in
    record {
      added = added_more (IsChange old new) _ _ _ c.loop-key.invariant.added c.in_ok-try_key.ensures.added;
      lines = each_next (λ k. AreLinesTried old new index years k f) c.args.keys.now c.loop-key.key-index c.key-item.result
          c.loop-key-test.true c.key-item.is
          (λ k j name y h may e. kept (node.Line name y) (c.loop-key.invariant.lines k j name y h may e)) c.in_ok-try_key.ensures.lines;
      equivalents = each_next (λ k. AreEquivalentsTried old new index years k f) c.args.keys.now c.loop-key.key-index c.key-item.result
          c.loop-key-test.true c.key-item.is
          (λ k j name y h may. equivalent_kept old new c.loop-key.self f name kept y (c.loop-key.invariant.equivalents k j name y h may))
          c.in_ok-try_key.ensures.equivalents;
    }

pub returns-clause-lines : goal.returns-clause-lines
returns-clause-lines g c = each_all _ c.args.keys.now c.loop-key.key-index c.loop-key-test.false c.loop-key.invariant.lines

pub returns-clause-equivalents : goal.returns-clause-equivalents
returns-clause-equivalents g c = each_all _ c.args.keys.now c.loop-key.key-index c.loop-key-test.false c.loop-key.invariant.equivalents
