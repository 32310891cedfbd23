use Rattle.ghg_trendunc.proofs.Held.{trends_hold}
use Rattle.ghg_trendunc.proofs.laws.trend_totals_hold_roots.Goals as goal

pub returns : goal.returns
returns c = trends_hold
