use Rattle.ghg_uncertainty.proofs.RootBounds.{roots_are}
use Rattle.ghg_trendunc.specs.Table.{root_text}
use Rattle.ghg_trendunc.proofs.printing.append_root.Goals as goal

pub returns : goal.returns
unfolding root_text
returns c =
    let total = c.trend_total-low.ensures.total in
    rw (← (roots_are _ _ _ total.low_root).0, ← (roots_are _ _ _ total.high_root).1) c.append_ends.ensures
