use Rattle.std.proofs.Common.{◌≡◌, All, map, take}
use Rattle.ghg_definitions.specs.Compilation.{compilation}
use Rattle.ghg_uncertainty.specs.Totals.{IsShare}
use Rattle.ghg_tables.specs.Tables.{share_of}
use Rattle.ghg_tables.proofs.propagation.shares.Given as goal

abbrev pub invariant-loop-name : goal.invariant-loop-name
invariant-loop-name g l = record {
  shares : l.shares.items ≡ map (share_of (g.C.Cells.content l.cells) (compilation (g.C.Cells.content l.cells)) l.year) (take l.name-index l.lines);
  each : All IsShare l.shares.items;
}
