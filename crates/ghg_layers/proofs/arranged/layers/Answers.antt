use Rattle.std.proofs.Common.{◌∙◌, ap, flat_map, subst, sym}
use Rattle.ghg_layers.specs.Buckets.{AreBuckets, contents, ends_of}
use Rattle.ghg_layers.specs.Layers.{AreLayers}
use Rattle.ghg_layers.specs.Ranks.{AreRanks, rank_in}
use Rattle.ghg_layers.proofs.Layering.{layers_are}
use Rattle.ghg_layers.proofs.Padding.{if_two}
use Rattle.ghg_layers.proofs.arranged.layers.Goals as goal

pub by_rank-requires-clause-ranks : goal.by_rank-requires-clause-ranks
by_rank-requires-clause-ranks g c = (g.R.Records.content c.args.records.now, subst (λ xs. AreRanks (g.R.Records.content c.args.records.now) xs (rank_in c.in_ok-ranks.ranks)) (c.deref.ensures.value ∙ sym c.deref-2.ensures.value) c.in_ok-ranks.ensures.ranks)

pub returns : goal.returns
returns g c =
    let m = g.R.Records.content c.args.records.now in
    let ns = c.args.nodes.items in
    let rank = rank_in c.in_ok-ranks.ranks in
    let bs = c.in_ok-buckets.buckets.items in
    let now = c.deref-3.ensures.value in
    if_two c.joined.result _ _ (AreLayers m ns) c.joined.ensures.nodes c.joined.ensures.ends
    (λ l nodes ends. layers_are m ns c.requires.order rank (subst (λ xs. AreRanks m xs rank) c.deref.ensures.value c.in_ok-ranks.ensures.ranks) (contents bs)
    (subst (λ xs. AreBuckets xs rank (contents bs)) c.deref-2.ensures.value c.in_ok-buckets.ensures) l
    (nodes ∙ ap (λ ls. flat_map (λ b. b) (contents ls)) now) (ends ∙ ap (λ ls. ends_of 0 (contents ls)) now))
