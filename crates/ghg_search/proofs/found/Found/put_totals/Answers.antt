use Rattle.std.proofs.Common.{subst, sym}
use Rattle.std.proofs.lemmas.List.{take_all}
use Rattle.ghg_definitions.specs.Listed.{IsListed}
use Rattle.ghg_search.specs.Found.{IsIn}
use Rattle.ghg_search.specs.Search.{IsTotalOf}
use Rattle.ghg_search.specs.Series.{Within}
use Rattle.ghg_search.proofs.Adding.{added_more, added_none, added_weaker, total_of, totals_next}
use Rattle.ghg_search.proofs.found.Found.put_totals.Goals as goal

pub loop-top-init : goal.loop-top-init
loop-top-init c = record {
  added = added_none (Within c.args.years.now (IsTotalOf c.args.tops.now)) c.args.self.now;
  totals = λ top i. absurd i;
}

pub loop-top-preserved : goal.loop-top-preserved
loop-top-preserved c = record {
  added = added_more (Within c.args.years.now (IsTotalOf c.args.tops.now)) _ _ _ c.loop-top.invariant.added
      (added_weaker _ (Within c.args.years.now (IsTotalOf c.args.tops.now)) _ _
      (total_of c.args.tops.now c.args.years.now c.loop-top.top-index _ c.loop-top-test.true) c.in_ok-put.ensures.added);
  totals = totals_next c.args.tops.now c.args.years.now c.loop-top.top-index _ c.loop-top.self c.put.new.self c.loop-top-test.true
      c.loop-top.invariant.totals c.in_ok-put.ensures.added.kept c.in_ok-put.ensures.found;
}

pub returns : goal.returns
returns c = record {
  added = c.loop-top.invariant.added;
  found = λ n h. let t = h.2 in subst (IsIn c.loop-top.self) (sym t.2) (c.loop-top.invariant.totals t.0
      (subst (IsListed t.0) (sym (take_all c.loop-top.top-index c.args.tops.now c.loop-top-test.false)) t.1) h.0 h.1);
}
