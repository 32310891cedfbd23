use Rattle.std.proofs.Common.{◌≡◌, ◌∙◌, ap, false, flat_map, subst, true}
use Rattle.std.proofs.lemmas.List.{take_all}
use Rattle.ghg_units.specs.Parameter.{is_parameter}
use Rattle.ghg_definitions.specs.Data.{binding}
use Rattle.ghg_definitions.specs.Rings.{taken_by}
use Rattle.ghg_graph.specs.Dependencies.{IsGathered}
use Rattle.ghg_graph.specs.Numbers.{taken_in}
use Rattle.ghg_graph.proofs.Depending.{gathered_none, taken_next}
use Rattle.ghg_graph.proofs.EquationParameters.{taken_at}
use Rattle.ghg_graph.proofs.Taking.{all_left}
use Rattle.ghg_graph.proofs.dependencies.Gathered.add_taken.Goals as goal

pub loop-param-init : goal.loop-param-init
loop-param-init g c = record { named = c.params_of-param-items.ensures.names; gathered = gathered_none c.args.self.now c.requires }

pub loop-param-preserved : goal.loop-param-preserved
loop-param-preserved g c =
    let m = g.R.Records.content c.args.records.now in
    let params = c.params_of-param-items.result.now in
    record {
      named = all_left (λ q. is_parameter q.name.now ≡ true) params c.loop-param.param-index c.loop-param-test.true c.loop-param.invariant.named;
      gathered = taken_next (λ q. taken_by (binding m c.args.line.now q.name.now)) params c.loop-param.param-index _ c.taken_by.result.now
          c.args.self.now c.loop-param.self c.add.new.self c.loop-param-test.true (c.taken_by.ensures ∙ ap (taken_in false) c.bound.ensures) c.loop-param.invariant.gathered c.in_ok-add.ensures;
    }

pub returns : goal.returns
returns g c =
    let m = g.R.Records.content c.args.records.now in
    let params = c.params_of-param-items.result.now in
    subst (λ ns. IsGathered ns c.args.self.now c.loop-param.self)
    (ap (flat_map (λ q. taken_by (binding m c.args.line.now q.name.now))) (take_all c.loop-param.param-index params c.loop-param-test.false)
    ∙ taken_at false m c.args.line.now params c.in-Some.id c.in-Some.ensures c.params_of-param-items.ensures.table)
    c.loop-param.invariant.gathered
