use Rattle.std.proofs.Common.{◌∙◌, false, subst, sym, true}
use Rattle.std.specs.List.Sorted.{IsStrictlySortedBy}
use Rattle.ghg_definitions.specs.Data.{name_cmp}
use Rattle.ghg_graph.specs.Numbers.{IsNumbering}
use Rattle.ghg_layers.proofs.Placing.{no_ring}
use Rattle.ghg_layers.proofs.lines.lines_of.Goals as goal

pub links_of-requires : goal.links_of-requires
links_of-requires g c = subst (IsStrictlySortedBy name_cmp) (sym c.deref.ensures.value) c.in_ok-names.ensures.order

pub links_of-requires-2 : goal.links_of-requires-2
links_of-requires-2 g c = subst (IsStrictlySortedBy name_cmp) (sym c.deref-2.ensures.value) c.in_ok-names.ensures.order

pub places_of-requires : goal.places_of-requires
places_of-requires g c = no_ring _ c.deref.result.now c.in_ok-links.links c.in_ok-links.ensures c.requires.acyclic

pub returns-clause-lines : goal.returns-clause-lines
returns-clause-lines g c =
    let m = g.R.Records.content c.args.records.now in record {
      order = c.in_ok-names.ensures.order;
      links = subst (λ ls. IsNumbering false m ls c.in_ok-links.links) c.deref.ensures.value c.in_ok-links.ensures;
      previous = subst (λ ls. IsNumbering true m ls c.in_ok-previous.previous) c.deref-2.ensures.value c.in_ok-previous.ensures;
      places = c.in_ok-places.ensures;
    }
