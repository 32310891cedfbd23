use Rattle.std.proofs.Common.{◌≡◌, ap, arith, false, filter, take, to_z-of_z, Bool, ◌&&◌, ◌∙◌}
use Rattle.std.proofs.lemmas.List.{take_all}
use Rattle.std.specs.Option.{option_map_or}
use Rattle.ghg_categories.specs.Tree.{stands_under}
use Rattle.ghg_equations.specs.declared.quantity.Gas.TheVariants.{Co2}
use Rattle.ghg_definitions.specs.Compilation.{compilation}
use Rattle.ghg_definitions.specs.Data.{Name}
use Rattle.ghg_units.specs.declared.node.Node.TheVariants as node
use Rattle.ghg_tables.specs.Rounding.{nearest}
use Rattle.ghg_tables.specs.Sums.{emission, lines_where, same_gas}
use Rattle.ghg_tables.specs.Tables.{co2_under}
use Rattle.ghg_tables.proofs.Amounts.{middles, tonnes_of_names}
use Rattle.ghg_tables.proofs.sums.co2_under.Goals as goal

pub returns-clause-value : goal.returns-clause-value
unfolding co2_under
returns-clause-value g c =
    let m = g.C.Cells.content c.args.cells.now in
    let whole : take c.loop-name.name-index c.args.lines.now ≡ c.args.lines.now = take_all _ _ (omega (arith, c.loop-name-test.false)) in
    let passing : Name → Bool = λ name. option_map_or (λ k. same_gas k.1 Co2 && stands_under k.0 c.args.top) (emission m name) false in
    let is = ap (nearest 2000000000) (c.loop-name.invariant.sum ∙ ap (λ names. middles (compilation m) (λ name. node.Line name c.args.year) (filter passing names)) (whole ∙ c.requires.names))
    ∙ tonnes_of_names (compilation m) (λ name. node.Line name c.args.year) (lines_where (λ k. same_gas k.1 Co2 && stands_under k.0 c.args.top) m) in
    grind (arith, to_z-of_z, is)
