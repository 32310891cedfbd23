use Rattle.std.proofs.Common.{◌∙◌, [], false, subst, sym}
use Rattle.std.proofs.lemmas.Result.{MatchResult-weaker}
use Rattle.std.specs.List.Sorted.{IsStrictlySortedBy}
use Rattle.ghg_definitions.specs.Data.{name_cmp}
use Rattle.ghg_graph.specs.Numbers.{IsNumbering}
use Rattle.ghg_graph.proofs.Named.{all_lines, all_rings, all_sorted, if_ring, order_of, ring_of}
use Rattle.ghg_graph.proofs.ordering.line_order.Goals as goal

pub links_of-requires : goal.links_of-requires
links_of-requires g c = subst (IsStrictlySortedBy name_cmp) (sym c.deref.ensures.value) c.in_ok-lines.ensures.order

pub named_order-requires : goal.named_order-requires
named_order-requires g c = (subst (λ ls. IsNumbering false (g.R.Records.content c.args.records.now) ls c.in_ok-links.links)
    (c.deref.ensures.value ∙ sym c.deref-2.ensures.value) c.in_ok-links.ensures).count

pub returns : goal.returns
returns g c =
    let m = g.R.Records.content c.args.records.now in
    let is = c.in_ok-lines.ensures.workbook in
    let lines = c.deref-2.result.now in
    let links = c.in_ok-links.links in
    let all = c.deref-2.ensures.value ∙ c.in_ok-lines.ensures.names in
    let sorted = all_sorted m is lines all in
    let n = subst (λ ls. IsNumbering false m ls links) (c.deref.ensures.value ∙ sym c.deref-2.ensures.value) c.in_ok-links.ensures in
    MatchResult-weaker c.named_order.result c.named_order.ensures
    (λ names of. order_of m is lines sorted links n [] (all_lines m is lines all) names.items of)
    (λ refusal. if_ring (ring_of m is lines sorted links n (all_rings m is lines all)) refusal)
