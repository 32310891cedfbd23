use Rattle.std.proofs.Common.{◌≡◌, ◌∙◌, ap, map, subst, IfOk}
use Rattle.ghg_units.specs.declared.node.Node.TheVariants as node
use Rattle.ghg_definitions.specs.Formulas.{Summed}
use Rattle.ghg_graph.specs.Slots.{is_within, slots_of}
use Rattle.ghg_graph.proofs.Moving.{emitting_lines}
use Rattle.ghg_graph.proofs.slots.total_slots.Goals as goal

pub returns : goal.returns
returns g c =
    let m = g.R.Records.content c.args.records.now in
    subst (λ ns. IfOk c.one_sum.result (λ slots. slots.items ≡ slots_of (Summed ns)))
    (c.in_ok-nodes.ensures ∙ ap (map (λ name. node.Equiv name c.args.year))
    (emitting_lines (is_within c.args.scope.now) m c.deref.result.now (c.deref.ensures.value ∙ c.in_ok-lines.ensures.names)))
    c.one_sum.ensures
