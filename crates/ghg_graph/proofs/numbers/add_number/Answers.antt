use Rattle.ghg_graph.proofs.LineNumbers.{none_added, number_added}
use Rattle.ghg_graph.proofs.numbers.add_number.Goals as goal

pub returns-in-None : goal.returns-in-None
returns-in-None c = λ before are. none_added c.args.lines.now c.args.numbers.now.items before c.args.name.now c.in-None.ensures are

pub returns-in_ok-push-in-Some : goal.returns-in_ok-push-in-Some
returns-in_ok-push-in-Some c = λ before are.
    number_added c.args.lines.now c.args.numbers.now.items before c.in-Some.number c.args.name.now c.in-Some.ensures.0 c.in-Some.ensures.1 c.push.new.self.items c.in_ok-push-in-Some.ensures.items are
