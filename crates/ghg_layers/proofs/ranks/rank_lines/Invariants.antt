use Rattle.ghg_layers.proofs.LineRanking.{AreRankedTo}
use Rattle.ghg_layers.proofs.ranks.rank_lines.Given as goal

abbrev pub invariant-loop-turn : goal.invariant-loop-turn
invariant-loop-turn l = AreRankedTo l.lines l.turns l.turn-index l.ranks
