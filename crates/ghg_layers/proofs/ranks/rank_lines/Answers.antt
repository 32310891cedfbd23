use Rattle.std.proofs.Common.{◌+◌, ◌<◌, get_or, subst, sym, arith}
use Rattle.std.proofs.lemmas.List.{get_or_default}
use Rattle.ghg_graph.proofs.EquationParameters.{at_place}
use Rattle.ghg_layers.specs.declared.turns.Turn.{Turn}
use Rattle.ghg_layers.specs.Grids.{IsSet}
use Rattle.ghg_layers.proofs.LineRanking.{all_ranked, last_small, none_ranked, ranked_on}
use Rattle.ghg_layers.proofs.ranks.rank_lines.Goals as goal

pub loop-turn-init : goal.loop-turn-init
loop-turn-init c = none_ranked c.args.lines.now c.args.turns.now c.in_ok-ranks.ranks (let h = c.in_ok-ranks.ensures.height in let l = c.len.ensures in grind (arith, h, l, c.args.lines.now.names.ok)) c.in_ok-ranks.ensures.none

pub last-rank-requires-clause-number : goal.last-rank-requires-clause-number
last-rank-requires-clause-number c = (c.requires.turns _ (at_place c.args.turns.now c.loop-turn.turn-index _ c.loop-turn-test.true)).number

pub overflow_add-rank : goal.overflow_add-rank
overflow_add-rank c =
    let none : Turn = record { year = 0; place = 0; number = 0 } in
    let t = get_or c.args.turns.now c.loop-turn.turn-index none in
    let low = last_small c.args.lines.now c.loop-turn.ranks c.loop-turn.turn-index c.loop-turn.invariant.small t.number t.year in
    let is = c.last-rank.ensures in
    let h = c.loop-turn-test.true in
    let fits = c.requires.fits in omega (arith, low, is, h, fits)

pub set-requires : goal.set-requires
set-requires c =
    let none : Turn = record { year = 0; place = 0; number = 0 } in
    let t = get_or c.args.turns.now c.loop-turn.turn-index none in
    subst (λ n. t.number < n) (sym c.loop-turn.invariant.height) (c.requires.turns t (at_place c.args.turns.now c.loop-turn.turn-index none c.loop-turn-test.true)).number

pub loop-turn-preserved : goal.loop-turn-preserved
loop-turn-preserved c =
    let none : Turn = record { year = 0; place = 0; number = 0 } in
    let k = c.loop-turn.turn-index in
    let h = c.loop-turn-test.true in
    let t = get_or c.args.turns.now k none in
    ranked_on c.requires.lines.0 c.args.lines.now c.requires.lines.1 c.args.turns.now c.requires.turns c.requires.sorted k t h (get_or_default c.args.turns.now k none t h)
    c.loop-turn.ranks c.set.new.self c.loop-turn.invariant (subst (λ r. IsSet t.number t.year (r + 1) c.loop-turn.ranks c.set.new.self) c.last-rank.ensures c.in_ok-set.ensures.set) c.set.ensures.height

pub returns : goal.returns
returns c = all_ranked c.args.lines.now c.args.turns.now c.loop-turn.turn-index c.loop-turn.ranks c.loop-turn.auto.turn-index-end c.loop-turn-test.false c.loop-turn.invariant
