use Rattle.std.proofs.Common.{◌∙◌, ◌-◌, ◌<◌, ap, sym, subst}
use Rattle.ghg_layers.specs.Ranks.{last_of}
use Rattle.ghg_layers.proofs.LineRanking.{last_first, last_later}
use Rattle.ghg_definitions.specs.Listed.{IsListed}
use Rattle.ghg_layers.proofs.ranks.last.Goals as goal

pub last_of-last-requires : goal.last_of-last-requires
last_of-last-requires c = λ i l. subst (λ n. i < n) (sym c.requires.height) ((c.requires.lines.1.links.targets c.args.turn.now.number c.requires.number).within i (subst (IsListed i) c.targets.ensures.targets l))

pub last_of-requires : goal.last_of-requires
last_of-requires c = λ i l. subst (λ n. i < n) (sym c.requires.height) ((c.requires.lines.1.previous.targets c.args.turn.now.number c.requires.number).within i (subst (IsListed i) c.targets-2.ensures.targets l))

pub returns-then-turn-eq0 : goal.returns-then-turn-eq0
returns-then-turn-eq0 c = last_first c.args.lines.now c.args.ranks.now c.args.turn.now.number c.args.turn.now.year c.last_of-last.result c.if-turn-eq0.true
    (c.last_of-last.ensures ∙ ap (λ xs. last_of c.args.ranks.now xs c.args.turn.now.year) c.targets.ensures.targets)

pub returns : goal.returns
returns c =
    let g = c.args.ranks.now in
    let year = c.args.turn.now.year in
    last_later c.args.lines.now g c.args.turn.now.number year c.last_of-last.result c.last_of.result c.max.result c.if-turn-eq0.false
    (c.last_of-last.ensures ∙ ap (λ xs. last_of g xs year) c.targets.ensures.targets)
    (c.last_of.ensures ∙ ap (λ xs. last_of g xs (year - 1)) c.targets-2.ensures.targets) c.max.ensures
