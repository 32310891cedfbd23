use Rattle.std.proofs.Common.{◌∙◌, ap, map, refl}
use Rattle.ghg_graph.specs.Numbers.{name_at}
use Rattle.ghg_graph.proofs.Named.{order_within, ring_within}
use Rattle.ghg_graph.proofs.LineNumbers.{names_within}
use Rattle.ghg_graph.proofs.ordering.named_order.Goals as goal

pub names_of-requires : goal.names_of-requires
names_of-requires c =
    names_within _ _ (order_within c.args.links.now _ c.requires _ c.in-Ok.ensures) c.args.lines.now c.deref.result.now refl c.deref.ensures.value

pub returns-in_ok-names_of-in-Ok : goal.returns-in_ok-names_of-in-Ok
returns-in_ok-names_of-in-Ok c = record {
  numbers = c.in-Ok.order.items;
  holds = c.in-Ok.ensures;
  named = c.in_ok-names_of-in-Ok.ensures ∙ ap (map (name_at c.args.lines.now)) c.deref.ensures.value;
}

pub names_of-requires-in-Err-Ring : goal.names_of-requires-in-Err-Ring
names_of-requires-in-Err-Ring c =
    names_within _ _ (ring_within c.args.links.now _ c.requires _ c.in_ok-ring-in-Err-Ring.ensures) c.args.lines.now c.deref-in-Err-Ring.result.now refl c.deref-in-Err-Ring.ensures.value

pub returns-in_ok-names_of-in-Err-Ring : goal.returns-in_ok-names_of-in-Err-Ring
returns-in_ok-names_of-in-Err-Ring c = record {
  numbers = c.in_ok-ring-in-Err-Ring.ring.items;
  holds = c.in_ok-ring-in-Err-Ring.ensures;
  named = c.new.ensures ∙ c.in_ok-names_of-in-Err-Ring.ensures ∙ ap (map (name_at c.args.lines.now)) c.deref-in-Err-Ring.ensures.value;
}
