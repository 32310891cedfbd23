use Rattle.std.proofs.Common.{◌≡◌, ◌≤◌, ◌*◌, ◌&&◌, false, filter, take, unsigned_abs}
use Rattle.std.specs.Option.{option_map_or}
use Rattle.ghg_categories.specs.Tree.{stands_under}
use Rattle.ghg_equations.specs.declared.quantity.Gas.TheVariants.{Co2}
use Rattle.ghg_interval.specs.Bounds.{bound_limit}
use Rattle.ghg_units.specs.declared.node.Node.TheVariants as node
use Rattle.ghg_definitions.specs.Compilation.{compilation}
use Rattle.ghg_tables.specs.Sums.{emission, same_gas}
use Rattle.ghg_tables.proofs.Amounts.{middles}
use Rattle.ghg_tables.proofs.sums.co2_under.Given as goal

abbrev pub invariant-loop-name : goal.invariant-loop-name
invariant-loop-name g l = record {
  sum : l.sum ≡ middles (compilation (g.C.Cells.content l.cells)) (λ name. node.Line name l.year)
      (filter (λ name. option_map_or (λ k. same_gas k.1 Co2 && stands_under k.0 l.top) (emission (g.C.Cells.content l.cells) name) false) (take l.name-index l.lines));
  small : unsigned_abs l.sum ≤ l.name-index * (2 * bound_limit);
}
