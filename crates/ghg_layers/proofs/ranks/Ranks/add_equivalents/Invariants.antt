use Rattle.ghg_layers.specs.Ranks.{IsRanking, KeepsLines}
use Rattle.ghg_layers.proofs.Owning.{AreOwnTo}
use Rattle.ghg_layers.proofs.ranks.Ranks.add_equivalents.Given as goal

abbrev pub invariant-loop-node : goal.invariant-loop-node
invariant-loop-node g l = record {
  ranking : IsRanking l.self;
  own : AreOwnTo (g.R.Records.content l.records) l.nodes l.node-index l.self;
  kept : KeepsLines l.fn.self l.self;
}
