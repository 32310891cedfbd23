use Rattle.std.proofs.Common.{◌≤◌, ◌∙◌, ap, subst, sym}
use Rattle.ghg_definitions.specs.Listed.{IsListed}
use Rattle.ghg_definitions.specs.Nodes.{year_in}
use Rattle.ghg_definitions.proofs.Listed.{contained}
use Rattle.ghg_layers.specs.Ranks.{AreLineRanks}
use Rattle.ghg_layers.specs.Turns.{AreTurns}
use Rattle.ghg_layers.proofs.Ranking.{node_year, ranks_are}
use Rattle.ghg_layers.proofs.ranks.ranks_of.Goals as goal

pub turns_of-requires-clause-years : goal.turns_of-requires-clause-years
turns_of-requires-clause-years g c = λ n i. subst (λ f. f ≤ year_in n) (sym c.first_year-first.ensures) (node_year (g.R.Records.content c.args.records.now) n (c.requires.nodes.nodes n (contained c.args.nodes.now n i)))

pub rank_lines-requires-clause-turns : goal.rank_lines-requires-clause-turns
rank_lines-requires-clause-turns g c = λ t i. c.in_ok-turns.ensures.turns.each t (subst (IsListed t) c.deref.ensures.value i)

pub add_equivalents-requires-clause-years : goal.add_equivalents-requires-clause-years
add_equivalents-requires-clause-years g c = λ n i. subst (λ f. f ≤ year_in n) (sym c.first_year-first.ensures) (node_year (g.R.Records.content c.args.records.now) n (c.requires.nodes.nodes n (contained c.args.nodes.now n i)))

pub returns-clause-first : goal.returns-clause-first
returns-clause-first g c = λ n i.
    subst (λ f. f ≤ year_in n) (sym (c.in_ok-add_equivalents.ensures.kept.first ∙ c.first_year-first.ensures)) (node_year (g.R.Records.content c.args.records.now) n (c.requires.nodes.nodes n (contained c.args.nodes.now n i)))

pub returns-clause-ranks : goal.returns-clause-ranks
returns-clause-ranks g c =
    let m = g.R.Records.content c.args.records.now in
    let ns = c.args.nodes.now in
    let l = c.in_ok-lines.lines in
    let turns = c.in_ok-turns.turns.items in
    let r = c.add_equivalents.new.self in
    let kept = c.in_ok-add_equivalents.ensures.kept in
    let first = kept.first ∙ c.first_year-first.ensures in
    ranks_are m ns (λ n i. c.requires.nodes.nodes n (contained ns n i)) l c.in_ok-lines.ensures.lines turns r (ap (λ v. v.items) kept.names)
    (subst (λ f. AreTurns l f ns turns) (sym kept.first) c.in_ok-turns.ensures.turns)
    (subst (AreLineRanks l turns) (sym kept.lines) (subst (λ ts. AreLineRanks l ts c.in_ok-ranked.ranked) c.deref.ensures.value c.in_ok-ranked.ensures))
    c.in_ok-add_equivalents.ensures.own first (λ n i. subst (λ f. f ≤ year_in n) (sym first) (node_year m n (c.requires.nodes.nodes n (contained ns n i))))
