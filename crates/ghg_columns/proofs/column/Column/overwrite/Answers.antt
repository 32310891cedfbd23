use Rattle.std.proofs.Common.{◌≡◌, ◌+◌, ◌-◌, ◌<◌, length, length-set, sym, ap, ◌∙◌, arith}
use Rattle.std.specs.Option.{option_or}
use Rattle.ghg_columns.specs.Columns.{value_in}
use Rattle.ghg_columns.proofs.Slots.{one_taken, value_from}
use Rattle.ghg_columns.proofs.column.Column.overwrite.Goals as goal

pub loop-slot-preserved-then-is_some : goal.loop-slot-preserved-then-is_some
loop-slot-preserved-then-is_some c =
    let fresh = c.args.fresh in
    let kept = c.loop-slot.self in
    let rest = c.pop.new.self.items in
    let slot = c.in-Some.slot in
    let offset = fresh.first - c.args.self.now.first + c.len.result in
    let at : kept.first + offset ≡ fresh.first + length rest = omega (arith, c.loop-slot.invariant.0, c.requires.first, c.len.ensures) in
    let within : offset < length kept.slots.items = omega (arith, c.loop-slot.invariant.1, c.loop-slot.invariant.2, c.requires.first, c.requires.end, c.len.ensures, c.in-Some.ensures.len) in (
      c.loop-slot.invariant.0,
      length-set kept.slots.items offset slot ∙ c.loop-slot.invariant.1,
      omega (arith, c.loop-slot.invariant.2, c.in-Some.ensures.len),
      λ y. one_taken fresh.first kept.first rest kept.slots.items slot offset at within (sym c.is_some.ensures ∙ c.if-is_some.true) y
          ∙ ap (λ xs. option_or (value_from fresh.first xs y) (value_in kept y)) (sym c.in-Some.ensures.items) ∙ c.loop-slot.invariant.3 y,
    )
