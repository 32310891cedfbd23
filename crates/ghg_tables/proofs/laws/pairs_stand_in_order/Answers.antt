use Rattle.ghg_tables.proofs.PairRows.{all_sorted}
use Rattle.ghg_tables.proofs.laws.pairs_stand_in_order.Goals as goal

pub returns : goal.returns
returns c = all_sorted
