use Rattle.std.proofs.Common.{◌∙◌, ap, sym}
use Rattle.ghg_units.specs.declared.node.Node.{Node}
use Rattle.ghg_units.specs.declared.node.Node.TheVariants as node
use Rattle.ghg_definitions.proofs.Alike.{both, second_so}
use Rattle.ghg_search.specs.Found.{IsIn}
use Rattle.ghg_search.specs.Index.{is_potential}
use Rattle.ghg_search.specs.Search.{AreTriedBy, IsChange}
use Rattle.ghg_search.proofs.Adding.{added_more, added_none, tried_kept}
use Rattle.ghg_search.proofs.Sources.{each_all, each_next}
use Rattle.ghg_search.proofs.found.Found.try_users.Goals as goal

pub loop-name-init : goal.loop-name-init
loop-name-init g c = record {
  added = added_none (IsChange (g.R.Records.content c.args.old.now) (g.S.Records.content c.args.new.now)) c.args.self.now;
  tried = λ name i. absurd i;
}

pub try_line-requires : goal.try_line-requires
try_line-requires g c = λ y h. c.requires y (second_so c.names_bound.result _ (sym (c.years_if-bound.ensures y) ∙ h))

pub try_equivalent-requires : goal.try_equivalent-requires
try_equivalent-requires g c = λ y h. c.requires y (second_so c.is_potential.result _ (sym (c.years_if-weighted.ensures y) ∙ h))

pub loop-name-preserved : goal.loop-name-preserved
loop-name-preserved g c =
    let old = g.R.Records.content c.args.old.now in
    let new = g.S.Records.content c.args.new.now in
    let source = c.args.source.now in
    let years = c.args.years.now in
    let P = IsChange old new in
    let line = c.in_ok-try_line.ensures in
    let equivalent = c.in_ok-try_equivalent.ensures in
    let kept = λ (n : Node) (is : IsIn c.loop-name.self n). equivalent.added.kept n (line.added.kept n is) in
    record {
      added = added_more P _ _ _ c.loop-name.invariant.added (added_more P _ _ _ line.added equivalent.added);
      tried = each_next (λ n. AreTriedBy old new source years n c.try_equivalent.new.self) c.args.names.now c.loop-name.name-index
          c.name-item.result c.loop-name-test.true c.name-item.is
          (λ n j. tried_kept old new _ _ n kept source years (c.loop-name.invariant.tried n j))
          (record {
            line = λ on y h e. equivalent.added.kept (node.Line c.name-item.result y)
                (line.tried y (c.years_if-bound.ensures y ∙ both _ _ (c.names_bound.ensures ∙ on) h) e);
            equivalent = λ on y h. equivalent.tried y (c.years_if-weighted.ensures y
                ∙ both _ _ (c.is_potential.ensures ∙ ap (is_potential source) c.line_gas.ensures ∙ on) h);
          });
    }

pub returns-clause-tried : goal.returns-clause-tried
returns-clause-tried g c =
    each_all (λ n. AreTriedBy (g.R.Records.content c.args.old.now) (g.S.Records.content c.args.new.now) c.args.source.now c.args.years.now n c.loop-name.self)
    c.args.names.now c.loop-name.name-index c.loop-name-test.false c.loop-name.invariant.tried
