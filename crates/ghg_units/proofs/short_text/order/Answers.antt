use Rattle.std.proofs.Common.{◌≡◌, ◌∙◌, ◌+◌, ◌*◌, ◌/◌, ℕ, ap, arith, drop, sym}
use Rattle.std.specs.Ordering.{nat_cmp}
use Rattle.std.specs.Cmp.Lexicographic.{slice_cmp}
use Rattle.ghg_units.proofs.ByteOrder.{one_byte, passed, settled}
use Rattle.ghg_units.proofs.short_text.order.Goals as goal
use Rattle.ghg_units.proofs.short_text.order.Goals.{After-loop-at, Else-is_ne, Else-is_ne-2, After-loop-place, Then-is_ne, Then-is_ne-2}

pub returns-then-is_ne : goal.returns-then-is_ne
returns-then-is_ne g c =
    let a = c.args.a.now in
    let b = c.args.b.now in
    let differ = sym c.is_ne.ensures ∙ c.if-is_ne.true in
    settled (c.loop-place.place * 8) 8 a b c.order_eight-found.result (omega arith) (omega arith) c.order_eight-found.ensures differ
    ∙ sym c.loop-place.invariant

pub loop-place-preserved : goal.loop-place-preserved
loop-place-preserved g c =
    let a = c.args.a.now in
    let b = c.args.b.now in
    let place : ℕ = c.loop-place.place in
    let same = sym c.is_ne.ensures ∙ c.if-is_ne.false in
    let next : place * 8 + 8 ≡ (place + 1) * 8 = omega arith in
    c.loop-place.invariant
    ∙ passed (place * 8) 8 a b c.order_eight-found.result (omega arith) (omega arith) c.order_eight-found.ensures same
    ∙ ap (λ (k : ℕ). slice_cmp nat_cmp (drop k a) (drop k b)) next

pub loop-at-init : goal.loop-at-init
loop-at-init g c =
    let whole : c.loop-place.place ≡ g.row.N / 8 = omega arith in
    c.loop-place.invariant ∙ ap (λ (k : ℕ). slice_cmp nat_cmp (drop (k * 8) c.args.a.now) (drop (k * 8) c.args.b.now)) whole

pub returns-then-is_ne-2 : goal.returns-then-is_ne-2
returns-then-is_ne-2 g c =
    let a = c.args.a.now in
    let b = c.args.b.now in
    let at : ℕ = c.loop-at.at in
    let is = c.cmp-found.ensures ∙ one_byte at a b (omega arith) (omega arith) in
    let differ = sym c.is_ne-in-loop-at.ensures ∙ c.if-is_ne-2.true in
    settled at 1 a b c.cmp-found.result (omega arith) (omega arith) is differ ∙ sym c.loop-at.invariant

pub loop-at-preserved : goal.loop-at-preserved
loop-at-preserved g c =
    let a = c.args.a.now in
    let b = c.args.b.now in
    let at : ℕ = c.loop-at.at in
    let is = c.cmp-found.ensures ∙ one_byte at a b (omega arith) (omega arith) in
    let same = sym c.is_ne-in-loop-at.ensures ∙ c.if-is_ne-2.false in
    c.loop-at.invariant ∙ passed at 1 a b c.cmp-found.result (omega arith) (omega arith) is same
