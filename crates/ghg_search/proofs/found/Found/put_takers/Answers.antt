use Rattle.std.proofs.Common.{subst}
use Rattle.ghg_search.specs.Search.{IsTaker, IsTakerOf}
use Rattle.ghg_columns.specs.declared.series.Series.TheVariants as series
use Rattle.ghg_search.proofs.Adding.{added_none}
use Rattle.ghg_search.proofs.Groups.{of_node}
use Rattle.ghg_search.proofs.Takers.{gross_taken, total_taken}
use Rattle.ghg_search.proofs.found.Found.put_takers.Goals as goal

pub returns-in-Total : goal.returns-in-Total
returns-in-Total g c = record {
  added = added_none (IsTakerOf (g.R.Records.content c.args.records.now) c.args.group.now.series c.args.group.now.years) c.args.self.now;
  found = λ n t.
      let m = g.R.Records.content c.args.records.now in
      let of = subst (λ s. IsTakerOf m s c.args.group.now.years n) c.in-Total.is t in
      absurd (total_taken m _ _ n (subst (λ k. IsTaker m k n) (of_node (series.Total c.in-Total.field-0) c.args.group.now.years of.0 of.1) of.2));
}

pub returns-in-Gross : goal.returns-in-Gross
returns-in-Gross g c = record {
  added = added_none (IsTakerOf (g.R.Records.content c.args.records.now) c.args.group.now.series c.args.group.now.years) c.args.self.now;
  found = λ n t.
      let m = g.R.Records.content c.args.records.now in
      let of = subst (λ s. IsTakerOf m s c.args.group.now.years n) c.in-Gross.is t in
      absurd (gross_taken m _ n (subst (λ k. IsTaker m k n) (of_node series.Gross c.args.group.now.years of.0 of.1) of.2));
}
