use Rattle.std.proofs.Common.{◌≡◌, ap, arith, take, to_z-of_z, ◌∙◌}
use Rattle.std.proofs.lemmas.List.{take_all}
use Rattle.ghg_definitions.specs.Compilation.{compilation}
use Rattle.ghg_units.specs.declared.node.Node.TheVariants as node
use Rattle.ghg_tables.specs.Rounding.{nearest}
use Rattle.ghg_tables.proofs.Amounts.{middles, tonnes_of_names}
use Rattle.ghg_tables.proofs.sums.equivalent_tonnes.Goals as goal

pub returns : goal.returns
returns g c =
    let whole : take c.loop-name.name-index c.args.lines.now ≡ c.args.lines.now = take_all _ _ (omega (arith, c.loop-name-test.false)) in
    let outcomes = compilation (g.C.Cells.content c.args.cells.now) in
    let is = ap (nearest 2000000000) (c.loop-name.invariant.sum ∙ ap (middles outcomes (λ name. node.Equiv name c.args.year)) whole) ∙ tonnes_of_names outcomes (λ name. node.Equiv name c.args.year) c.args.lines.now in
    grind (arith, to_z-of_z, is)
