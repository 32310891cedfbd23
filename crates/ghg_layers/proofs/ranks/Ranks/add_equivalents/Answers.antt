use Rattle.std.proofs.Common.{◌≤◌, ◌+◌, ◌-◌, subst, sym, arith}
use Rattle.ghg_units.specs.declared.node.Node.TheVariants as node
use Rattle.ghg_definitions.specs.Data.{category}
use Rattle.ghg_definitions.specs.Listed.{IsListed}
use Rattle.ghg_definitions.proofs.Listed.{listed}
use Rattle.ghg_layers.specs.Ranks.{IsRaised, IsRanking, KeepsLines, line_rank, number_in}
use Rattle.ghg_layers.proofs.Owning.{AreOwnTo, all_own, keeps_on, own_more, own_same, ranking_on}
use Rattle.ghg_layers.proofs.ranks.Ranks.add_equivalents.Goals as goal
use Rattle.ghg_layers.proofs.ranks.Ranks.add_equivalents.Goals.{in-Equiv+in_ok-raise, in_default}

pub line_rank-rank-requires-clause-year : goal.line_rank-rank-requires-clause-year
line_rank-rank-requires-clause-year g c =
    subst (λ f. f ≤ c.in-Equiv.year) (sym c.loop-node.invariant.kept.first)
    (c.requires.years (node.Equiv c.in-Equiv.name c.in-Equiv.year) (subst (λ n. IsListed n c.args.nodes.now) c.in-Equiv.is (listed c.args.nodes.now c.node-item.result (c.loop-node.node-index, c.loop-node-test.true, sym c.node-item.is))))

pub raise-requires-clause-year : goal.raise-requires-clause-year
raise-requires-clause-year g c =
    subst (λ f. f ≤ c.in-Equiv.year) (sym c.loop-node.invariant.kept.first)
    (c.requires.years (node.Equiv c.in-Equiv.name c.in-Equiv.year) (subst (λ n. IsListed n c.args.nodes.now) c.in-Equiv.is (listed c.args.nodes.now c.node-item.result (c.loop-node.node-index, c.loop-node-test.true, sym c.node-item.is))))

pub loop-node-preserved : goal.loop-node-preserved
loop-node-preserved g c =
    let m = g.R.Records.content c.args.records.now in
    let ns = c.args.nodes.now in
    let k = c.loop-node.node-index in
    let n = c.node-item.result in
    let h = c.loop-node-test.true in
    let e = c.node-item.is in
    let old = c.loop-node.self in
    let was = c.loop-node.invariant in
    elim c.match-node.branch [
      | in-Equiv+in_ok-raise w ↦ (
          let name = w.in-Equiv.name in
          let year = w.in-Equiv.year in
          let new = w.raise.new.self in
          let low = subst (λ f. f ≤ year) (sym was.kept.first) (c.requires.years (node.Equiv name year) (subst (λ x. IsListed x ns) w.in-Equiv.is (listed ns n (k, h, sym e)))) in
          let keeps = w.raise.ensures.kept in
          let rank = w.line_rank-rank.ensures in
          let up = w.in_ok-raise.ensures.own in
          let small = was.ranking.small (number_in old.names.items name) (year - old.first) in
          let raised = subst (λ r. IsRaised (category m name) (year - old.first) (r + 1) old.own new.own) rank up in record {
            ranking = subst IsRanking (sym w.self-is) (ranking_on old new was.ranking keeps w.raise.ensures.height (category m name) (year - old.first) (line_rank old name year + 1) raised (omega (arith, small)));
            own = subst (AreOwnTo m ns (k + 1)) (sym w.self-is) (own_more m ns k n h e old was.own name year w.in-Equiv.is low new keeps raised);
            kept = subst (KeepsLines c.args.self.now) (sym w.self-is) (keeps_on c.args.self.now old new was.kept keeps);
          })
      | in_default w ↦ record {
        ranking = subst IsRanking (sym w.self-is) was.ranking;
        own = subst (AreOwnTo m ns (k + 1)) (sym w.self-is) (own_same m ns k n h e old was.own w.in_default.not-Equiv);
        kept = subst (KeepsLines c.args.self.now) (sym w.self-is) was.kept;
      }
    ]

pub returns-clause-own : goal.returns-clause-own
returns-clause-own g c = all_own (g.R.Records.content c.args.records.now) c.args.nodes.now c.loop-node.node-index c.loop-node-test.false c.loop-node.self c.loop-node.invariant.own
