use Rattle.std.proofs.Common.{take}
use Rattle.ghg_search.specs.Listing.{AreOfSeries}
use Rattle.ghg_search.proofs.found.Found.nodes_of.Given as goal

abbrev pub invariant-loop-series : goal.invariant-loop-series
invariant-loop-series l = AreOfSeries l.self (take l.series-index l.all) l.nodes.items
