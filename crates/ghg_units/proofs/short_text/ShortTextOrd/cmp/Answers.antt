use Rattle.std.proofs.Common.{◌≡◌, ◌∙◌, ◌+◌, ◌-◌, arith, length, sym}
use Rattle.ghg_units.proofs.ByteOrder.{padded_order}
use Rattle.ghg_units.proofs.short_text.ShortTextOrd.cmp.Goals as goal

pub returns : goal.returns
returns g c =
    let a = c.self.inside in
    let b = c.other.inside in
    let before = c.self.invariant in
    let behind = c.other.invariant in
    let same : length a.bytes ≡ length b.bytes = before.2 ∙ sym behind.2 in
    let left : a.len + (g.row.N - a.len) ≡ length a.bytes = omega (arith, before.0, before.2) in
    let right : b.len + (g.row.N - b.len) ≡ length b.bytes = omega (arith, behind.0, behind.2) in
    rw (← c.self.view_is, ← c.other.view_is, c.then.ensures, c.order.ensures, c.cmp.ensures)
    (sym (padded_order a.len (g.row.N - a.len) b.len (g.row.N - b.len) a.bytes b.bytes left right same before.1 behind.1))
