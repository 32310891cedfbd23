use Rattle.std.proofs.Common.{◌≡◌, true}
use Rattle.ghg_search.specs.Series.{IsOf}
use Rattle.ghg_search.proofs.Adding.{added_weaker}
use Rattle.ghg_search.proofs.found.Found.put_if.Goals as goal

pub returns-in_ok-put : goal.returns-in_ok-put
returns-in_ok-put c = record {
  added = added_weaker (IsOf c.args.series.now c.args.years.now)
      (λ n. (c.args.condition ≡ true) × IsOf c.args.series.now c.args.years.now n) c.args.self.now c.put.new.self
      (λ n of. (c.if-condition.true, of)) c.in_ok-put.ensures.added;
  found = λ n h. c.in_ok-put.ensures.found n h.1;
}
