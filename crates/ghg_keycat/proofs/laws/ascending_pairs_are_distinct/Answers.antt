use Rattle.ghg_keycat.proofs.Keys.{distinct_from_ascending}
use Rattle.ghg_keycat.proofs.laws.ascending_pairs_are_distinct.Goals as goal

pub returns : goal.returns
returns c = distinct_from_ascending
