use Rattle.std.proofs.Common.{◌≡◌, ◌∙◌, ◌≤ℤ◌, ap₂, rules, arith, to_z-of_z}
use Rattle.std.proofs.lemmas.Int.{ints}
use Rattle.ghg_cell.specs.declared.input.Input.TheVariants.{Known}
use Rattle.ghg_interval.specs.Bounds.{hull_of}
use Rattle.ghg_units.proofs.Conversions.{between_bounded, hull-converted, same_converted}
use Rattle.ghg_data.proofs.lookups.known.Goals as goal

pub interval-point-requires : goal.interval-point-requires
interval-point-requires c = between_bounded c.args.unit c.args.low c.args.value c.args.high c.requires.0 c.requires.1 c.requires.2

pub interval-requires : goal.interval-requires
interval-requires c = between_bounded c.args.unit c.args.low c.args.low c.args.high (omega (arith, ints)) (omega (arith, ints)) c.requires.2

pub interval-requires-2 : goal.interval-requires-2
interval-requires-2 c = between_bounded c.args.unit c.args.low c.args.high c.args.high (omega (arith, ints)) (omega (arith, ints)) c.requires.2

pub returns : goal.returns
returns c =
    let ordered : c.args.low.scaled ≤ℤ c.args.high.scaled = omega (arith, ints) in
    ap₂ Known c.interval-point.ensures (c.hull-range.ensures.value ∙ ap₂ hull_of c.interval.ensures c.interval-2.ensures ∙ hull-converted c.args.unit c.args.low c.args.high ordered)

pub returns-then-low-high : goal.returns-then-low-high
returns-then-low-high c =
    let same : c.args.low.scaled ≡ c.args.high.scaled = search (rules, to_z-of_z) in
    ap₂ Known c.interval-point.ensures (c.interval-point.ensures ∙ same_converted c.args.unit c.args.low c.args.value c.args.high c.requires.0 c.requires.1 same)
