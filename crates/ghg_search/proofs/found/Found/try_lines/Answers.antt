use Rattle.std.proofs.Common.{◌≡◌, ℕ, true}
use Rattle.ghg_units.specs.declared.node.Node.TheVariants as node
use Rattle.ghg_data.specs.YearSet.{has_year}
use Rattle.ghg_search.specs.Found.{IsLineTried}
use Rattle.ghg_search.specs.Search.{IsChange}
use Rattle.ghg_search.proofs.Adding.{added_more, added_none}
use Rattle.ghg_search.proofs.Sources.{each_all, each_next}
use Rattle.ghg_search.proofs.found.Found.try_lines.Goals as goal

pub loop-name-init : goal.loop-name-init
loop-name-init g c = record {
  added = added_none (IsChange (g.R.Records.content c.args.old.now) (g.S.Records.content c.args.new.now)) c.args.self.now;
  tried = λ name i. absurd i;
}

pub loop-name-preserved : goal.loop-name-preserved
loop-name-preserved g c =
    let old = g.R.Records.content c.args.old.now in
    let new = g.S.Records.content c.args.new.now in
    record {
      added = added_more (IsChange old new) _ _ _ c.loop-name.invariant.added c.in_ok-try_line.ensures.added;
      tried = each_next (λ n. (y : ℕ) → has_year c.args.years.now y ≡ true → IsLineTried old new c.try_line.new.self n y) c.args.names.now
          c.loop-name.name-index c.name-item.result c.loop-name-test.true c.name-item.is
          (λ n j y h e. c.in_ok-try_line.ensures.added.kept (node.Line n y) (c.loop-name.invariant.tried n j y h e)) c.in_ok-try_line.ensures.tried;
    }

pub returns-clause-tried : goal.returns-clause-tried
returns-clause-tried g c = each_all _ c.args.names.now c.loop-name.name-index c.loop-name-test.false c.loop-name.invariant.tried
