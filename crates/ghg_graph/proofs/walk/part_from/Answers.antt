use Rattle.std.proofs.Common.{◌∙◌, sym, subst}
use Rattle.std.specs.Option.{IsSome}
use Rattle.ghg_definitions.proofs.Listed.{listed}
use Rattle.ghg_graph.proofs.Paths.{part_result, place_is}
use Rattle.ghg_graph.proofs.walk.part_from.Goals as goal

pub unwrap-place-requires : goal.unwrap-place-requires
unwrap-place-requires c = subst IsSome (sym c.place_of.ensures) (place_is c.args.lines.now c.args.line (listed c.args.lines.now c.args.line c.requires))

pub returns : goal.returns
returns c = part_result (λ part. part.items) c.args.lines.now c.args.line c.unwrap-place.result (sym c.place_of.ensures ∙ c.unwrap-place.ensures) c.from_slice.result c.from_slice.ensures.items
