use Rattle.std.proofs.Common.{◌∙◌, false, rules, subst, sym}
use Rattle.std.specs.List.Sorted.{IsStrictlySortedBy}
use Rattle.ghg_definitions.specs.Data.{name_cmp}
use Rattle.ghg_definitions.specs.Sound.{IsWorkbook}
use Rattle.ghg_data.specs.Changes.{applied}
use Rattle.ghg_graph.specs.Dependencies.{AreLedTo, AreLedToBy, present_lines}
use Rattle.ghg_graph.specs.Numbers.{IsNumbering}
use Rattle.ghg_graph.specs.Refusal.{IfRing, IsLeastRingOf}
use Rattle.ghg_graph.proofs.Depending.{no_ring_reached, ring_reached}
use Rattle.ghg_graph.proofs.dependencies.check_changed.Goals as goal

pub led_to-requires : goal.led_to-requires
led_to-requires c = subst IsWorkbook (sym c.after-new.ensures) c.requires.planned.workbook

pub links_of-requires : goal.links_of-requires
links_of-requires c = subst (IsStrictlySortedBy name_cmp) (sym c.deref.ensures.value) c.in_ok-lines.ensures.order

pub named_order-requires : goal.named_order-requires
named_order-requires c = (subst (λ ls. IsNumbering false c.after-new.result ls c.in_ok-links.links)
    (c.deref.ensures.value ∙ sym c.deref-2.ensures.value) c.in_ok-links.ensures).count

pub returns-in_err-named_order : goal.returns-in_err-named_order
returns-in_err-named_order c =
    let old = c.args.book.now.content in
    let edits = c.args.edits.now in
    let new = applied old edits in
    let lines = c.deref-2.result.now in
    let found = c.in_ok-links.links in
    let are = subst (λ ls. AreLedToBy old edits ls) (sym c.deref-2.ensures.value)
    (subst (λ keys. AreLedTo new (present_lines new keys) c.in_ok-lines.lines.items) c.keys.ensures.keys
    (subst (λ m. AreLedTo m (present_lines m c.keys.result.now) c.in_ok-lines.lines.items) c.after-new.ensures c.in_ok-lines.ensures)) in
    let links = subst (λ m. IsNumbering false m lines found) c.after-new.ensures
    (subst (λ ls. IsNumbering false c.after-new.result ls found) (c.deref.ensures.value ∙ sym c.deref-2.ensures.value) c.in_ok-links.ensures) in
    let ring : IfRing (IsLeastRingOf new) c.in_err-named_order.field-0.0 =
    ring_reached old edits c.requires.acyclic lines are c.requires.planned.workbook found links
    c.in_err-named_order.field-0.0 c.in_err-named_order.ensures in
    search (rules, ring)

pub returns : goal.returns
returns c =
    let old = c.args.book.now.content in
    let edits = c.args.edits.now in
    let new = applied old edits in
    let lines = c.deref-2.result.now in
    let found = c.in_ok-links.links in
    let are = subst (λ ls. AreLedToBy old edits ls) (sym c.deref-2.ensures.value)
    (subst (λ keys. AreLedTo new (present_lines new keys) c.in_ok-lines.lines.items) c.keys.ensures.keys
    (subst (λ m. AreLedTo m (present_lines m c.keys.result.now) c.in_ok-lines.lines.items) c.after-new.ensures c.in_ok-lines.ensures)) in
    let links = subst (λ m. IsNumbering false m lines found) c.after-new.ensures
    (subst (λ ls. IsNumbering false c.after-new.result ls found) (c.deref.ensures.value ∙ sym c.deref-2.ensures.value) c.in_ok-links.ensures) in
    no_ring_reached old edits c.requires.acyclic lines are c.requires.planned.workbook found links _
    c.in_ok-named_order.ensures
