use Rattle.std.proofs.Common.{◌≡◌, ◌∙◌, ◌++◌, List, ap, flat_map, subst, sym, take, true}
use Rattle.std.proofs.lemmas.List.{take_all}
use Rattle.ghg_equations.specs.declared.row.Param.{Param}
use Rattle.ghg_units.specs.Parameter.{is_parameter}
use Rattle.ghg_definitions.specs.Data.{Name, binding}
use Rattle.ghg_graph.specs.Numbers.{AreNumbers, taken_in}
use Rattle.ghg_graph.proofs.EquationParameters.{taken_at}
use Rattle.ghg_graph.proofs.LineNumbers.{flat_more}
use Rattle.ghg_graph.proofs.Taking.{all_left}
use Rattle.ghg_graph.proofs.numbers.targets_of.Goals as goal

pub loop-param-preserved : goal.loop-param-preserved
loop-param-preserved g c =
    let m = g.R.Records.content c.args.records.now in
    let f : Param → List Name = (λ q. taken_in c.args.before (binding m c.args.line.now q.name.now)) in
    let ps = c.params_of-param-items.result.now in
    let i = c.loop-param.param-index in (
      all_left (λ (q : Param). is_parameter q.name.now ≡ true) ps i c.loop-param-test.true c.loop-param.invariant.0,
      subst (AreNumbers c.args.lines.now c.add_numbers.new.numbers.items)
          (ap (λ ns. flat_map f (take i ps) ++ ns) (c.taken_by.ensures ∙ ap (taken_in c.args.before) c.bound.ensures)
          ∙ sym (flat_more f ps i _ c.loop-param-test.true))
          (c.in_ok-add_numbers.ensures (flat_map f (take i ps)) c.loop-param.invariant.1),
    )

pub returns : goal.returns
returns g c =
    let m = g.R.Records.content c.args.records.now in
    let ps = c.params_of-param-items.result.now in
    subst (AreNumbers c.args.lines.now c.loop-param.targets.items)
    (ap (flat_map (λ q. taken_in c.args.before (binding m c.args.line.now q.name.now))) (take_all c.loop-param.param-index ps c.loop-param-test.false)
    ∙ taken_at c.args.before m c.args.line.now ps c.in-Some.id c.in-Some.ensures c.params_of-param-items.ensures.table)
    c.loop-param.invariant.1
