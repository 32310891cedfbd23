use Rattle.std.proofs.Common.{◌≡◌, ◌++◌, take}
use Rattle.std.specs.List.{flat_map}
use Rattle.ghg_definitions.specs.Compilation.{compilation}
use Rattle.ghg_tables.specs.Tables.{emitter_row}
use Rattle.ghg_tables.proofs.propagation.append_emitters.Given as goal

abbrev pub invariant-loop-name : goal.invariant-loop-name
invariant-loop-name g l = l.out.items ≡ l.initial.out.items ++ flat_map (emitter_row (g.C.Cells.content l.cells) (compilation (g.C.Cells.content l.cells)) l.year) (take l.name-index l.lines)
