use Rattle.ghg_graph.proofs.LineNumbers.{found_number}
use Rattle.ghg_graph.proofs.numbers.number_of.Goals as goal

pub returns-in_default : goal.returns-in_default
returns-in_default c = found_number c.args.lines.now c.args.name.now c.requires c.binary_search.result c.binary_search.ensures.bound c.binary_search.ensures.position c.ok.result c.ok.ensures.value
