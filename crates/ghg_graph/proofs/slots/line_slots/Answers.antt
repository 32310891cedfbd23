use Rattle.std.proofs.Common.{◌∙◌, ap, map}
use Rattle.std.proofs.lemmas.List.{take_all}
use Rattle.ghg_definitions.specs.Compilation.{bound_to, line_formula}
use Rattle.ghg_definitions.specs.Data.{binding, line}
use Rattle.ghg_definitions.specs.Formulas.{map_formula, map_operand}
use Rattle.ghg_definitions.specs.Lookups.{given}
use Rattle.ghg_graph.specs.Slots.{slot_of, slots_of}
use Rattle.ghg_graph.proofs.EquationParameters.{slots_at}
use Rattle.ghg_graph.proofs.slots.line_slots.Goals as goal

pub returns : goal.returns
returns g c =
    let m = g.R.Records.content c.args.records.now in
    let name = c.args.name.now in
    let params = c.params_of-param-items.result.now in
    c.loop-param.invariant.1
    ∙ ap (map (λ q. slot_of (map_operand (given m) (bound_to m c.first_year-first.result c.args.year (binding m name q.name.now))))) (take_all c.loop-param.param-index params c.loop-param-test.false)
    ∙ slots_at m c.first_year-first.result c.args.year name params c.in-Some.id c.in-Some.ensures c.params_of-param-items.ensures.table
    ∙ ap (λ first. slots_of (map_formula (given m) (line_formula m first name c.args.year (line m name)))) c.first_year-first.ensures
