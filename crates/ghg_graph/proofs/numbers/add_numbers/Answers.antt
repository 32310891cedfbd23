use Rattle.std.proofs.Common.{◌++◌, subst, take}
use Rattle.std.proofs.lemmas.List.{take_all}
use Rattle.ghg_graph.specs.Numbers.{AreNumbers}
use Rattle.ghg_graph.proofs.LineNumbers.{names_added}
use Rattle.ghg_graph.proofs.numbers.add_numbers.Goals as goal

pub loop-name-preserved : goal.loop-name-preserved
loop-name-preserved c = λ before are.
    let names = c.args.names.now in
    let k = c.loop-name.name-index in
    names_added c.args.lines.now _ before names k c.name-item.result c.loop-name-test.true c.name-item.is
    (c.in_ok-next.ensures (before ++ take k names) (c.loop-name.invariant before are))

pub returns : goal.returns
returns c = λ before are. subst (λ xs. AreNumbers c.args.lines.now c.loop-name.numbers.items (before ++ xs)) (take_all c.loop-name.name-index c.args.names.now c.loop-name-test.false) (c.loop-name.invariant before are)
