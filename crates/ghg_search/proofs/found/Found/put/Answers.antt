use Rattle.std.proofs.Common.{◌∙◌, ◌&&◌, ◌||◌, ap, ap₂, not}
use Rattle.std.proofs.Math.Bool.{and-true}
use Rattle.ghg_data.specs.YearSet.{has_year}
use Rattle.ghg_search.specs.Series.{IsOf}
use Rattle.ghg_search.proofs.Adding.{added_none, found_group, none_missing}
use Rattle.ghg_search.proofs.found.Found.put.Goals as goal

pub returns-then-is_empty : goal.returns-then-is_empty
returns-then-is_empty c = record {
  added = added_none (IsOf c.args.series.now c.args.years.now) c.args.self.now;
  found = none_missing c.args.self.now c.args.series.now c.args.years.now c.missing-fresh.result c.missing-fresh.ensures
      (c.is_empty.ensures.0 c.if-is_empty.true);
}

pub returns : goal.returns
returns c =
    found_group c.args.self.now (record { years = c.insert.new.self; queue = c.push.new.self }) c.args.series.now c.args.years.now
    c.missing-fresh.result c.changed-all.result c.in_ok-insert.ensures.updates.0 c.in_ok-push.ensures.items c.missing-fresh.ensures
    (λ y. c.changed-all.ensures y
    ∙ ap₂ (λ a b. has_year c.missing-fresh.result y || (a && not b)) (c.years_of.ensures y) (c.empty.ensures y)
    ∙ ap (λ b. has_year c.missing-fresh.result y || b) (and-true _))
