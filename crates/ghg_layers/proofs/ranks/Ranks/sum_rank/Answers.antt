use Rattle.std.proofs.Common.{◌∙◌, ◌-◌, ℕ, ap, filter, map, sym, arith}
use Rattle.ghg_categories.specs.declared.category.Category.{Category}
use Rattle.std.proofs.lemmas.List.{get_or_default, take_all}
use Rattle.ghg_graph.specs.Slots.{is_within}
use Rattle.ghg_layers.specs.Grids.{cell}
use Rattle.ghg_layers.specs.Ranks.{greatest, own_rank}
use Rattle.ghg_layers.proofs.Greatest.{failing_out, filtered_more, greater_in, no_greater}
use Rattle.ghg_layers.proofs.Looking.{sum_is}
use Rattle.ghg_layers.proofs.ranks.Ranks.sum_rank.Goals as goal
use Rattle.ghg_layers.proofs.ranks.Ranks.sum_rank.Goals.{then-rank-last+then-is_within, else-rank-last, else-rank-last-via-then-rank-last+else-is_within, else-rank-last-via-else-rank-last}

pub loop-category-preserved : goal.loop-category-preserved
loop-category-preserved c =
    let self = c.args.self.now in
    let f : Category → ℕ = (λ d. own_rank self d c.args.year) in
    let cs = c.all-category-items.result.now in
    let k = c.loop-category.category-index in
    let h = c.loop-category-test.true in
    let last = c.loop-category.last in
    let rank = c.get-rank.result in
    filtered_more f (is_within c.args.scope.now) cs k _ h (get_or_default cs k _ _ h) last rank c.if-rank-last.last c.loop-category.invariant
    (c.get-rank.ensures ∙ ap (λ p. cell self.own p (c.args.year - self.first)) c.place.ensures.place)
    (elim c.if-rank-last.branch [
      | then-rank-last+then-is_within w ↦ let above = w.if-rank-last.true in w.last-is ∙ greater_in _ last rank (sym w.is_within.ensures ∙ w.if-is_within.true) (omega (arith, above))
      | else-rank-last w ↦ w.last-is ∙ elim w.else-rank-last.branch [
        | else-rank-last-via-then-rank-last+else-is_within v ↦ failing_out _ last rank (sym v.is_within.ensures ∙ v.if-is_within.false)
        | else-rank-last-via-else-rank-last v ↦ let below = v.if-rank-last.false in no_greater _ last rank (omega (arith, below))
      ]
    ])

pub returns : goal.returns
returns c =
    let r = c.args.self.now in
    let cs = c.all-category-items.result.now in
    sum_is r c.args.scope.now c.args.year cs c.all-category-items.ensures c.loop-category.last
    (c.loop-category.invariant ∙ ap (λ ds. greatest (map (λ d. own_rank r d c.args.year) (filter (is_within c.args.scope.now) ds)))
    (take_all c.loop-category.category-index cs c.loop-category-test.false))
