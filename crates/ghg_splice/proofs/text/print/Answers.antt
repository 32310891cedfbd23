use Rattle.std.proofs.Common.{refl, rules}
use Rattle.ghg_splice.specs.Texts.{printed_in}
use Rattle.ghg_splice.proofs.Joined.{goes_on, is_done, lines_at, no_lines, stops}
use Rattle.ghg_splice.proofs.text.print.Goals as goal

pub loop-fill-init : goal.loop-fill-init
unfolding printed_in
loop-fill-init c =
    let header = rw c.new-out.ensures.items at c.in_ok-extend_from_slice.ensures.items in
    rw header refl

pub returns-in_err-append_fill : goal.returns-in_err-append_fill
returns-in_err-append_fill c =
    let so_far = rw (lines_at c.args.heading.now c.args.fills.now c.loop-fill.fill-index c.fill-item.result c.loop-fill-test.true c.fill-item.is) at c.loop-fill.invariant in
    let fails = stops c.loop-fill.out.items _ _ _ c.in_err-append_fill.field-0.0 c.in_err-append_fill.ensures so_far in
    search (rules, fails)

pub loop-fill-preserved : goal.loop-fill-preserved
loop-fill-preserved c =
    let (text, is, longer) = c.in_ok-append_fill.ensures in
    let so_far = rw (lines_at c.args.heading.now c.args.fills.now c.loop-fill.fill-index c.fill-item.result c.loop-fill-test.true c.fill-item.is) at c.loop-fill.invariant in
    goes_on c.loop-fill.out.items text c.append_fill.new.out.items _ _ _ is longer so_far

pub returns : goal.returns
returns c =
    let so_far = rw (no_lines c.args.heading.now c.args.fills.now c.loop-fill.fill-index c.loop-fill-test.false) at c.loop-fill.invariant in
    rw c.new.ensures (is_done c.loop-fill.out.items _ so_far)
