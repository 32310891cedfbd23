use Rattle.ghg_uncertainty.proofs.RootBounds.{roots_are}
use Rattle.ghg_trendunc.specs.Table.{l_text}
use Rattle.ghg_trendunc.proofs.printing.append_l.Goals as goal

pub returns : goal.returns
unfolding l_text
returns c = rw (← (roots_are _ _ _ c.sqrt_bracket-low.ensures).0, ← (roots_are _ _ _ c.sqrt_bracket-high.ensures).1) c.append_ends.ensures
