use Rattle.ghg_trendunc.proofs.Held.{trends_hold}
use Rattle.ghg_trendunc.proofs.totals.trend_total.Goals as goal

pub returns-clause-holds : goal.returns-clause-holds
returns-clause-holds c = trends_hold c.args.rows.now _ _ (record {
  above_low = c.sqrt_bracket-low.result.1;
  below_high = c.sqrt_bracket-high.result.0;
  low_root = rw c.low_squares.ensures at c.sqrt_bracket-low.ensures;
  high_root = rw c.high_squares.ensures at c.sqrt_bracket-high.ensures;
})
