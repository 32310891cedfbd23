use Rattle.std.proofs.Common.{◌≡◌, drop, flat_map, fold}
use Rattle.ghg_definitions.specs.Data.{line_names}
use Rattle.ghg_data.specs.Faults.{considered, line_places}
use Rattle.ghg_data.proofs.bindings.consider_lines.Given as goal

abbrev pub invariant-loop-line : goal.invariant-loop-line
invariant-loop-line l =
    fold (considered l.draft) l.least (flat_map (line_places l.holdings.content) (drop l.line-index l.line-items))
    ≡ fold (considered l.draft) l.fn.least (flat_map (line_places l.holdings.content) (line_names l.holdings.content))
