use Rattle.std.proofs.Common.{◌≡◌, length, sym, subst, refl, arith}
use Rattle.ghg_graph.specs.Links.{IsOrder}
use Rattle.ghg_layers.proofs.Placing.{ArePlacesTo, number_within, place_more, places_are}
use Rattle.ghg_layers.proofs.lines.places_of.Goals as goal

pub index_mut-requires : goal.index_mut-requires
index_mut-requires c =
    let o = subst (IsOrder c.args.links.now) (sym c.deref-number-items.ensures.value) c.in_ok-order.ensures in
    let low = number_within c.args.links.now c.deref-number-items.result.now o c.loop-place.place c.loop-place-test.true in
    let wide = c.loop-place.invariant.wide in
    grind (arith, low, wide, c.loop-place.places.ok)

pub loop-place-preserved : goal.loop-place-preserved
loop-place-preserved c =
    let o = subst (IsOrder c.args.links.now) (sym c.deref-number-items.ensures.value) c.in_ok-order.ensures in
    place_more c.args.links.now c.deref-number-items.result.now o c.loop-place.place c.loop-place-test.true c.loop-place.places.items _ refl c.loop-place.invariant

pub returns : goal.returns
returns c =
    let o = subst (IsOrder c.args.links.now) (sym c.deref-number-items.ensures.value) c.in_ok-order.ensures in
    let low = c.loop-place.auto.place-end in
    let high = c.loop-place-test.false in
    let e : c.loop-place.place ≡ length c.deref-number-items.result.now = omega (arith, low, high) in
    places_are c.args.links.now c.deref-number-items.result.now o c.loop-place.places.items (subst (λ k. ArePlacesTo (length c.args.links.now) c.deref-number-items.result.now k c.loop-place.places.items) e c.loop-place.invariant)
