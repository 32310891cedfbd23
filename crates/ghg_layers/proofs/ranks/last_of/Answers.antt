use Rattle.std.proofs.lemmas.List.{get_or_default}
use Rattle.ghg_graph.proofs.Marks.{at_listed}
use Rattle.ghg_layers.specs.Grids.{cell}
use Rattle.ghg_layers.proofs.Greatest.{one_more}
use Rattle.ghg_layers.proofs.ranks.last_of.Goals as goal

pub get-requires : goal.get-requires
get-requires c = c.requires _ (at_listed c.args.numbers.now c.loop-number.number-index c.loop-number-test.true)

pub loop-number-preserved : goal.loop-number-preserved
loop-number-preserved c =
    let h = c.loop-number-test.true in
    one_more (λ i. cell c.args.ranks.now i c.args.year) c.args.numbers.now c.loop-number.number-index _ h (get_or_default c.args.numbers.now c.loop-number.number-index _ _ h)
    c.loop-number.last c.get.result c.max-last.result c.loop-number.invariant c.get.ensures c.max-last.ensures
