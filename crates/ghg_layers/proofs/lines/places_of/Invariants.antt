use Rattle.std.proofs.Common.{length}
use Rattle.ghg_layers.proofs.Placing.{ArePlacesTo}
use Rattle.ghg_layers.proofs.lines.places_of.Given as goal

abbrev pub invariant-loop-place : goal.invariant-loop-place
invariant-loop-place l = ArePlacesTo (length l.links) l.number-items l.place l.places.items
