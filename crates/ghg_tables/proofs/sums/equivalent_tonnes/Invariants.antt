use Rattle.std.proofs.Common.{◌≡◌, ◌≤◌, ◌*◌, take, unsigned_abs}
use Rattle.ghg_interval.specs.Bounds.{bound_limit}
use Rattle.ghg_units.specs.declared.node.Node.TheVariants as node
use Rattle.ghg_definitions.specs.Compilation.{compilation}
use Rattle.ghg_tables.proofs.Amounts.{middles}
use Rattle.ghg_tables.proofs.sums.equivalent_tonnes.Given as goal

abbrev pub invariant-loop-name : goal.invariant-loop-name
invariant-loop-name g l = record {
  sum : l.sum ≡ middles (compilation (g.C.Cells.content l.cells)) (λ name. node.Equiv name l.year) (take l.name-index l.lines);
  small : unsigned_abs l.sum ≤ l.name-index * (2 * bound_limit);
}
