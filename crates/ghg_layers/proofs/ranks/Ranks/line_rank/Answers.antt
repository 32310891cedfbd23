use Rattle.std.proofs.Common.{◌≡◌, ◌<◌, length, subst, sym}
use Rattle.ghg_definitions.specs.Listed.{IsListed}
use Rattle.ghg_graph.specs.Numbers.{name_at}
use Rattle.ghg_layers.proofs.Looking.{line_found, line_out}
use Rattle.ghg_layers.proofs.ranks.Ranks.line_rank.Goals as goal

pub returns-in-None : goal.returns-in-None
returns-in-None c = line_out c.args.self.now c.requires.ranks c.args.name.now c.args.year (λ i. c.in-None.ensures (subst (IsListed c.args.name.now) (sym c.deref.ensures.value) i))

pub returns-in-Some : goal.returns-in-Some
returns-in-Some c = line_found c.args.self.now c.requires.ranks c.args.name.now c.args.year c.in-Some.number
    (subst (λ xs. (c.in-Some.number < length xs) × (name_at xs c.in-Some.number ≡ c.args.name.now)) c.deref.ensures.value c.in-Some.ensures) _ c.get.ensures
